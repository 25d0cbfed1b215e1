use Rattle.std.proofs.Common.{List, ℕ, sym, subst}
use Rattle.wire.specs.Output.{TellsUnlessFailed, end_of}
use Rattle.server.proofs.ReportLemmas.{lines_step}
use Rattle.wire.proofs.OutputLemmas.{told_more}
use Rattle.server.proofs.lines.tell_each.Goals as goal

pub loop-fault-preserved : goal.loop-fault-preserved
loop-fault-preserved g c =
    subst (λ (t : List ℕ). TellsUnlessFailed c.args.before (end_of g.E.Write.contents c.args.err.now) (end_of g.E.Write.contents c.tell_fault.new.err) t)
    (sym (lines_step c.args.faults.now c.loop-fault.fault-index _ c.loop-fault-test.true))
    (told_more c.args.before _ _ _ _ _ c.requires c.loop-fault.invariant c.tell_fault.ensures)
