use Rattle.spiffe_doc.proofs.DocumentLaws.{IsBundle-document}
use Rattle.spiffe_doc.proofs.laws.documents_give_valid_bundles.Goals as goal

pub returns : goal.returns
returns c = IsBundle-document
