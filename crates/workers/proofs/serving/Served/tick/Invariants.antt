use Rattle.std.proofs.Common.{◌≡◌, ◌-◌, ◌<◌, ◌≤◌, ℕ}
use Rattle.slab.specs.Slab.{get}
use Rattle.workers.specs.Places.{ticked}
use Rattle.workers.proofs.serving.Served.tick.Given as goal

abbrev pub invariant-loop-place : goal.invariant-loop-place
invariant-loop-place g l =
    ((other : ℕ) → other < l.place → get l.self.open other ≡ ticked (get l.fn.self.open other))
    × ((other : ℕ) → l.place ≤ other → get l.self.open other ≡ get l.fn.self.open other)
    × (l.self.waiting ≡ l.fn.self.waiting)
    × (l.self.ends ≡ l.fn.self.ends)

abbrev pub decreases-loop-place : goal.decreases-loop-place
decreases-loop-place g l = l.places - l.place
