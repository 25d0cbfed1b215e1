use Rattle.std.proofs.Common.{Err}
use Rattle.spiffe_doc.proofs.EntryLaws.{outcome_of, IsAtFault-judge}
use Rattle.spiffe_doc.proofs.laws.entries_are_malformed.Goals as goal

pub returns : goal.returns
returns c = λ place entry fault. (outcome_of place entry (Err fault), IsAtFault-judge place entry fault)
