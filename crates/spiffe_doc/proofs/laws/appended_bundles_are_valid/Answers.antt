use Rattle.spiffe_doc.proofs.AppendLaws.{IsBundle-appended}
use Rattle.spiffe_doc.proofs.laws.appended_bundles_are_valid.Goals as goal

pub returns : goal.returns
returns c = IsBundle-appended
