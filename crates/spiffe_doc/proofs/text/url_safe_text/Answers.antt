use Rattle.spiffe_doc.proofs.PlainTexts.{url_safe_plain, plain_if}
use Rattle.spiffe_doc.proofs.text.url_safe_text.Goals as goal

pub returns-clause-plain : goal.returns-clause-plain
returns-clause-plain c = plain_if _ _ (rw c.as_slice.ensures at c.encode.ensures.text) (url_safe_plain c.args.bytes.now c.recall_valid.ensures)
