use Rattle.std.proofs.Common.{◌-◌}
use Rattle.slab.specs.Slab.{get}
use Rattle.workers.proofs.HeldReplies.{YoungestBelow}
use Rattle.workers.proofs.serving.Served.youngest.Given as goal

abbrev pub invariant-loop-place : goal.invariant-loop-place
invariant-loop-place g l = YoungestBelow (get l.self.open) l.least l.most l.age l.place

abbrev pub decreases-loop-place : goal.decreases-loop-place
decreases-loop-place g l = l.places - l.place
