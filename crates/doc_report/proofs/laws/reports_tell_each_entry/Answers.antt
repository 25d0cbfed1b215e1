use Rattle.doc_report.proofs.Told.{entries_told-report_of}
use Rattle.doc_report.proofs.laws.reports_tell_each_entry.Goals as goal

pub returns : goal.returns
returns c = entries_told-report_of
