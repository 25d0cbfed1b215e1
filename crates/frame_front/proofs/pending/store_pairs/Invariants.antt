use Rattle.std.proofs.Common.{◌≡◌, ◌++◌, ◌≤◌, ◌-◌, length}
use Rattle.frame_front.specs.Private.Pending.{items_left}
use Rattle.frame_front.specs.Live.{most_ready}
use Rattle.frame_front.proofs.pending.store_pairs.Given as goal

-- what is ready, and what is left after it, are what they were together
abbrev pub invariant-loop-stored : goal.invariant-loop-stored
invariant-loop-stored l =
    (l.ready.items ++ items_left l.pairs l.stored ≡ l.fn.ready.items ++ items_left l.pairs l.fn.stored)
    × (length l.fn.ready.items ≤ most_ready → length l.ready.items ≤ most_ready)

abbrev pub decreases-loop-stored : goal.decreases-loop-stored
decreases-loop-stored l = length l.pairs - l.stored
