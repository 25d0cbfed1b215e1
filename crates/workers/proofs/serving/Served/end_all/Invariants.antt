use Rattle.std.proofs.Common.{◌≡◌, ◌-◌, ◌<◌, ◌≤◌, ℕ}
use Rattle.std.specs.Prelude.{None}
use Rattle.std.specs.List.{AllByRecursion}
use Rattle.slab.specs.Slab.{get}
use Rattle.workers.specs.Places.{IsLast}
use Rattle.workers.specs.Private.Serving.{Serves, work_of}
use Rattle.workers.proofs.serving.Served.end_all.Given as goal

abbrev pub invariant-loop-place : goal.invariant-loop-place
invariant-loop-place g l =
    Serves g.A.Ask.answers l.worker.limits (AllByRecursion IsLast) (work_of l.fn.self) (work_of l.self) l.fn.ask.ask l.ask.ask
    × ((other : ℕ) → other < l.place → get l.self.open other ≡ None)
    × ((other : ℕ) → l.places ≤ other → get l.self.open other ≡ None)

abbrev pub decreases-loop-place : goal.decreases-loop-place
decreases-loop-place g l = l.places - l.place
