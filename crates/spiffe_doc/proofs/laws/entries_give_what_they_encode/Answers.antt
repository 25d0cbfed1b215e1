use Rattle.std.proofs.Common.{Ok, Some}
use Rattle.spiffe_doc.proofs.EntryLaws.{outcome_of, GivesAuthority-judge}
use Rattle.spiffe_doc.proofs.laws.entries_give_what_they_encode.Goals as goal

pub returns : goal.returns
returns c = λ place entry authority. (outcome_of place entry (Ok (Some authority)), GivesAuthority-judge place entry authority)
