use Rattle.std.proofs.Common.{ℕ}
use Rattle.slab.specs.Slab.{get}
use Rattle.workers.specs.Places.{IsOldest, IsYoungest}
use Rattle.workers.proofs.serving.Served.oldest_reply.Given as goal

abbrev pub invariant-loop-left : goal.invariant-loop-left
invariant-loop-left g l =
    (least : ℕ) × IsYoungest (get l.self.open) least l.most l.age
    × ((oldest : ℕ) → IsOldest (get l.self.open) l.left least l.most oldest → IsOldest (get l.self.open) l.patience.moments 0 l.most oldest)

abbrev pub decreases-loop-left : goal.decreases-loop-left
decreases-loop-left g l = l.left
