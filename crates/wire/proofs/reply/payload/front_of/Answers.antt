use Rattle.std.proofs.Common.{◌≡◌, ◌+◌, [], ◌∷◌, ◌∙◌, ap, length, ◌++◌, arith, rules}
use Rattle.std.specs.Int.{w32, to_be_bytes}
use Rattle.wire.proofs.FrameLemmas.{frame_in_parts}
use Rattle.wire.proofs.reply.payload.front_of.Goals as goal

pub returns-clause-whole : goal.returns-clause-whole
returns-clause-whole c =
    let numbers = c.args.numbers.now in
    let code = c.args.code ∷ [] in
    let empty : c.new-front.result.items ≡ [] = search rules in
    let field : c.to_be_bytes.result ≡ to_be_bytes w32 (length numbers + 1) = search rules in
    c.put-3.ensures
    ∙ ap (λ b. b ++ numbers)
    (c.put-2.ensures ∙ ap (λ b. b ++ code) c.put.ensures
    ∙ ap (λ b. (b ++ c.to_be_bytes.result) ++ code) empty
    ∙ ap (λ f. f ++ code) field)
    ∙ frame_in_parts [] code numbers (length numbers + 1) (omega arith)
