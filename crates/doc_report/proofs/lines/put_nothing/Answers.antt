use Rattle.std.specs.Prelude.{codes}
use Rattle.doc_report.specs.Lines.{counted}
use Rattle.doc_report.proofs.Pieces.{on_ok, and_then}
use Rattle.doc_report.proofs.lines.put_nothing.Goals as goal

pub returns : goal.returns
returns c =
    on_ok c.put_counted.result (and_then c.args.out.now.items _ _
    (codes "no authorities: nothing would be kept of ") (counted c.args.entries (codes " entry") (codes " entries")) c.in_ok-put.ensures) c.put_counted.ensures
