use Rattle.std.proofs.Common.{◌++◌, refl, sym, subst, ◌∙◌}
use Rattle.std.specs.Prelude.{codes}
use Rattle.hex.specs.Hex.{encode_lower}
use Rattle.wire.specs.RequestForm.{IsOneLine}
use Rattle.wire.proofs.Heads.{hex_is_line}
use Rattle.wire.proofs.Lines.{both_lines}
use Rattle.wire.proofs.request.line.digest_words.Goals as goal

pub returns-clause-plain : goal.returns-clause-plain
returns-clause-plain c =
    subst IsOneLine (sym (c.put.ensures ∙ (λ i. c.head_of-words.ensures i ++ c.digest_word.ensures i)))
    (both_lines (codes "fetch unless ") (encode_lower c.args.known.now) refl (hex_is_line c.args.known.now))
