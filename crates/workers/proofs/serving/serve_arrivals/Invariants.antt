use Rattle.std.proofs.Common.{List, []}
use Rattle.workers.specs.Connection.{opened}
use Rattle.workers.specs.Arrivals.{Brings, News}
use Rattle.workers.specs.Places.{FollowsAll}
use Rattle.workers.specs.Private.Serving.{Serves, begun, work_of}
use Rattle.workers.proofs.serving.serve_arrivals.Given as goal

abbrev pub invariant-loop-end : goal.invariant-loop-end
invariant-loop-end g l =
    (news : List News) × Serves g.A.Ask.answers l.worker.limits (FollowsAll [] news) begun (work_of l.served) l.fn.ask.ask l.ask.ask
    × Brings (λ reads_only end. opened reads_only l.worker.limits.turns (g.V.End.Stream.may end) (g.V.End.Stream.left end) (g.V.End.Stream.held end)) g.V.Arrivals.comes news l.fn.arrivals l.arrivals

abbrev pub decreases-loop-end : goal.decreases-loop-end
decreases-loop-end g l = g.V.Arrivals.left l.arrivals
