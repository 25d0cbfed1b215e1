use Rattle.std.proofs.Common.{[], ◌∷◌, ◌++◌, ap, ◌∙◌}
use Rattle.wire.specs.RequestForm.{expect_word}
use Rattle.wire.proofs.Heads.{expect_is_line, spaced_is_line}
use Rattle.wire.proofs.request.line.expect_words.Goals as goal

pub returns-clause-plain : goal.returns-clause-plain
returns-clause-plain c =
    let word = expect_word c.args.expect in
    spaced_is_line word c.put.new.head.items (expect_is_line c.args.expect c.put_expect.ensures.fits) (c.put.ensures ∙ ap (λ b. b ++ 32 ∷ []) (c.put_expect.ensures.items ∙ ap (λ b. b ++ word) c.head_of-words.ensures))
