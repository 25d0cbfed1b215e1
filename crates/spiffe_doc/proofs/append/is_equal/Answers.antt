use Rattle.std.proofs.Common.{bytes_eq, ap, ◌∙◌}
use Rattle.spiffe_doc.specs.Text.{entry_text}
use Rattle.spiffe_doc.proofs.EntryTexts.{same_text}
use Rattle.spiffe_doc.proofs.append.is_equal.Goals as goal

pub returns : goal.returns
returns c =
    c.is_text_of.ensures
    ∙ ap (λ text. bytes_eq text (entry_text c.args.authority.now)) c.text.ensures.value
    ∙ same_text c.args.other.now c.args.authority.now c.text.ensures.valid c.recall_valid.ensures
