use Rattle.std.proofs.Common.{List, ℕ, ◌&&◌, sym, ap, take, subst, ◌∙◌}
use Rattle.server.specs.Serve.{session_lines, have_all_come}
use Rattle.wire.specs.Output.{TellsUnlessFailed, end_of}
use Rattle.server.proofs.ReportLemmas.{all_lines_step, all_come_step}
use Rattle.wire.proofs.OutputLemmas.{told_more}
use Rattle.server.proofs.lines.tell_faults.Goals as goal

pub loop-worker-preserved : goal.loop-worker-preserved
loop-worker-preserved g c =
    let worked = c.args.worked.now in
    let i = c.loop-worker.worker-index in
    let w = c.worker-item.result in
    let lines = all_lines_step worked i w c.loop-worker-test.true c.worker-item.is in
    let came = all_come_step worked i w c.loop-worker-test.true c.worker-item.is in
    let tells = subst (λ faults. TellsUnlessFailed c.args.before (end_of g.E.Write.contents c.loop-worker.err) (end_of g.E.Write.contents c.tell_each.new.err) (session_lines faults)) c.faults.ensures c.tell_each.ensures in (
      subst (λ (t : List ℕ). TellsUnlessFailed c.args.before (end_of g.E.Write.contents c.args.err.now) (end_of g.E.Write.contents c.tell_each.new.err) t) (sym lines)
          (told_more c.args.before _ _ _ _ _ c.requires c.loop-worker.invariant.0 tells),
      ap (λ b. b && c.have_come-have_come.result) c.loop-worker.invariant.1 ∙ ap (λ b. have_all_come (take i worked) && b) c.have_come-have_come.ensures ∙ sym came,
    )
