use Rattle.std.proofs.Common.{◌≡◌, ◌+◌, [], ◌∷◌, ◌∙◌, ap, length, ◌++◌, arith, rules}
use Rattle.std.specs.Int.{w32, to_be_bytes}
use Rattle.wire.proofs.FrameLemmas.{frame_in_parts}
use Rattle.wire.proofs.reply.payload.text_front.Goals as goal

pub returns-clause-whole : goal.returns-clause-whole
returns-clause-whole c =
    let text = c.args.text.now in
    let empty : c.new-front.result.items ≡ [] = search rules in
    let field : c.to_be_bytes.result ≡ to_be_bytes w32 (length text + 1) = search rules in
    ap (λ b. b ++ text)
    (c.put-2.ensures ∙ ap (λ b. b ++ c.args.code ∷ []) c.put.ensures
    ∙ ap (λ b. (b ++ c.to_be_bytes.result) ++ c.args.code ∷ []) empty
    ∙ ap (λ f. f ++ c.args.code ∷ []) field)
    ∙ frame_in_parts [] (c.args.code ∷ []) text (length text + 1) (omega arith)
