use Rattle.doc_report.proofs.Printable.{quoted_printable}
use Rattle.doc_report.proofs.laws.shown_texts_are_printable.Goals as goal

pub returns : goal.returns
returns c = quoted_printable
