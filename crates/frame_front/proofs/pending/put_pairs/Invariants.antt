use Rattle.std.proofs.Common.{◌≡◌, ◌≤◌, ℕ, List, ◌++◌, ◌-◌, length}
use Rattle.std.specs.Io.KnownBytes.{Appends}
use Rattle.wire.specs.Counted.{end_in, faults_in}
use Rattle.frame_front.specs.Live.{most_ready}
use Rattle.frame_front.specs.Private.Pending.{items_left}
use Rattle.frame_front.proofs.pending.put_pairs.Given as goal

-- what is written, what is ready and the frames of the domains that are left are what was ready and the frames of all
abbrev pub invariant-loop-place : goal.invariant-loop-place
invariant-loop-place g l =
    (sent : List ℕ) × Appends (g.W.Write.contents (end_in l.fn.writer)) (g.W.Write.contents (end_in l.writer)) sent
    × (l.fn.ready.items ++ items_left l.pairs l.stored ≡ sent ++ (l.ready.items ++ items_left l.pairs l.place))
    × (faults_in l.writer ≡ faults_in l.fn.writer)
    × (length l.fn.ready.items ≤ most_ready → length l.ready.items ≤ most_ready)

abbrev pub decreases-loop-place : goal.decreases-loop-place
decreases-loop-place g l = length l.pairs - l.place
