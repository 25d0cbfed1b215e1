use Rattle.std.proofs.Common.{arith}
use Rattle.server.proofs.ReportLemmas.{all_begun_step}
use Rattle.server.proofs.lines.count_begun.Goals as goal

pub loop-worker-preserved : goal.loop-worker-preserved
loop-worker-preserved c =
    let step = all_begun_step c.args.worked.now c.loop-worker.worker-index c.worker-item.result c.loop-worker-test.true c.worker-item.is in
    omega (arith, step, c.loop-worker.invariant, c.begun.ensures, c.saturating_add-count.ensures)
