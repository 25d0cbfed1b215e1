use Rattle.std.proofs.Common.{◌≡◌, [], ◌∷◌, ◌∙◌, ap, ◌++◌, append_assoc, rules}
use Rattle.std.specs.Int.{w32, w64, to_be_bytes}
use Rattle.wire.specs.Frame.{frame}
use Rattle.wire.proofs.reply.payload.moved_front.Goals as goal

pub returns-clause-whole : goal.returns-clause-whole
returns-clause-whole c =
    let empty : c.new-numbers.result.items ≡ [] = search rules in
    let shard : c.to_be_bytes.result ≡ to_be_bytes w32 c.args.shard = search rules in
    let first : c.to_be_bytes-2.result ≡ to_be_bytes w64 c.args.first = search rules in
    let second : c.to_be_bytes-3.result ≡ to_be_bytes w64 c.args.second = search rules in
    c.front_of.ensures.whole
    ∙ ap (λ n. frame (41 ∷ n))
    (c.as_slice.ensures.value ∙ c.put-3.ensures
    ∙ ap (λ b. b ++ c.to_be_bytes-3.result) (c.put-2.ensures ∙ ap (λ b. b ++ c.to_be_bytes-2.result) (c.put.ensures ∙ ap (λ b. b ++ c.to_be_bytes.result) empty ∙ shard))
    ∙ ap (λ f. (to_be_bytes w32 c.args.shard ++ f) ++ c.to_be_bytes-3.result) first
    ∙ ap (λ s. (to_be_bytes w32 c.args.shard ++ to_be_bytes w64 c.args.first) ++ s) second
    ∙ append_assoc (to_be_bytes w32 c.args.shard) (to_be_bytes w64 c.args.first) (to_be_bytes w64 c.args.second))
