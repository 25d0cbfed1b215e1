use Rattle.doc_report.proofs.Reasons.{reason-IsIgnored, IsIgnored-reason, judge-reason}
use Rattle.doc_report.proofs.laws.entries_are_ignored_for_a_reason.Goals as goal

pub returns-clause-judged : goal.returns-clause-judged
returns-clause-judged c = judge-reason

pub returns-clause-ignored : goal.returns-clause-ignored
returns-clause-ignored c = λ entry. (reason-IsIgnored entry, IsIgnored-reason entry)
