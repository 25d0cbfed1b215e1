use Rattle.std.proofs.Common.{◌++◌}
use Rattle.std.specs.Prelude.{codes}
use Rattle.doc_report.specs.Fault.{entry_words}
use Rattle.doc_report.specs.Lines.{reason_words}
use Rattle.doc_report.proofs.Pieces.{on_ok, and_then}
use Rattle.doc_report.proofs.lines.put_why.Goals as goal

pub returns : goal.returns
returns c =
    let reason = reason_words c.args.ignored.now.reason in
    on_ok c.put_reason.result (λ last. and_then c.args.out.now.items _ _ (entry_words c.args.ignored.now.place) (codes "is ignored: " ++ reason) c.in_ok-put_entry.ensures
    (and_then c.put_entry.new.out.items _ _ (codes "is ignored: ") reason c.in_ok-put.ensures last)) c.put_reason.ensures
