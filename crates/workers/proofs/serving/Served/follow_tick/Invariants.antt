use Rattle.std.proofs.Common.{◌-◌, ◌≤◌}
use Rattle.workers.specs.Private.Serving.{Serves, work_of}
use Rattle.workers.proofs.ServingLemmas.{TicksTo}
use Rattle.workers.proofs.serving.Served.follow_tick.Given as goal

abbrev pub invariant-loop-place : goal.invariant-loop-place
invariant-loop-place g l =
    Serves g.A.Ask.answers l.worker.limits (TicksTo g.A.Ask.answers l.worker.limits l.places l.oldest l.place) (work_of l.fn.self) (work_of l.self) l.fn.ask.ask l.ask.ask × (l.place ≤ l.places)

abbrev pub decreases-loop-place : goal.decreases-loop-place
decreases-loop-place g l = l.places - l.place
