use Rattle.std.proofs.Common.{Ok, None}
use Rattle.spiffe_doc.proofs.EntryLaws.{outcome_of, IsPassedOver-judge}
use Rattle.spiffe_doc.proofs.laws.entries_are_ignored.Goals as goal

pub returns : goal.returns
returns c = λ place entry. (outcome_of place entry (Ok None), IsPassedOver-judge place entry)
