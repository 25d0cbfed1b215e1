use Rattle.doc_report.proofs.Told.{report_of-err}
use Rattle.doc_report.proofs.laws.faults_stay.Goals as goal

pub returns : goal.returns
returns c = report_of-err
