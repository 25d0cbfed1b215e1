use Rattle.std.proofs.Common.{arith}
use Rattle.doc_report.specs.Lines.{line, ignored_words}
use Rattle.doc_report.proofs.Pieces.{one_more_text}
use Rattle.doc_report.proofs.lines.put_ignored_lines.Goals as goal

pub loop-entry-preserved : goal.loop-entry-preserved
loop-entry-preserved c =
    one_more_text (λ entry. line c.args.name.now (ignored_words entry)) _ _ _ c.args.ignored.now.items c.loop-entry.entry-index c.entry-item.result (omega arith)
    (rw (c.deref-entry-items.ensures.value) at c.entry-item.is) c.loop-entry.invariant c.in_ok-put_ignored.ensures
