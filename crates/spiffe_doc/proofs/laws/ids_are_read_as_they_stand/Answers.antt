use Rattle.spiffe_doc.proofs.IdLaws.{spiffe_id-IsId, IsId-spiffe_id}
use Rattle.spiffe_doc.proofs.laws.ids_are_read_as_they_stand.Goals as goal

pub returns : goal.returns
returns c = λ text id. (spiffe_id-IsId text id, IsId-spiffe_id text id)
