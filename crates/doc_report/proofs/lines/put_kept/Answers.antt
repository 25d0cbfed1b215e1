use Rattle.std.proofs.Common.{◌+◌}
use Rattle.std.specs.Prelude.{codes}
use Rattle.doc_report.specs.Lines.{counted, kinds_words}
use Rattle.doc_report.specs.Report.{value_of}
use Rattle.doc_report.proofs.Pieces.{on_ok, and_then}
use Rattle.doc_report.proofs.lines.put_kept.Goals as goal

pub returns : goal.returns
returns c =
    on_ok c.put_kinds.result (and_then c.args.out.now.items _ _
    (counted (c.args.report.now.x509 + c.args.report.now.jwt) (codes " authority (") (codes " authorities (")) (kinds_words (value_of c.args.report.now)) c.in_ok-put_counted.ensures) c.put_kinds.ensures
