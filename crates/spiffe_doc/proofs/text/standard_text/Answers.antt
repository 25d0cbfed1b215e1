use Rattle.spiffe_doc.proofs.PlainTexts.{standard_plain, plain_if}
use Rattle.spiffe_doc.proofs.text.standard_text.Goals as goal

pub returns-clause-plain : goal.returns-clause-plain
returns-clause-plain c = plain_if _ _ (rw c.as_slice.ensures at c.encode.ensures.text) (standard_plain c.args.bytes.now c.recall_valid.ensures)
