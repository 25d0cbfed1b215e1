use Rattle.spiffe_doc.proofs.EntryLaws.{outcome_of, of_outcome, one_outcome}
use Rattle.spiffe_doc.proofs.laws.entries_have_one_verdict.Goals as goal

pub returns-clause-one : goal.returns-clause-one
returns-clause-one c = one_outcome

pub returns-clause-judged : goal.returns-clause-judged
returns-clause-judged c = λ place entry outcome. (outcome_of place entry outcome, of_outcome place entry outcome)
