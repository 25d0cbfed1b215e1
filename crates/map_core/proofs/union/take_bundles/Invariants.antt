use Rattle.std.proofs.Common.{◌≡◌, ◌++◌}
use Rattle.std.specs.VecDeque.{deque_len}
use Rattle.map_core.specs.PlainMap.{bundles_among}
use Rattle.map_core.proofs.Turns.{last_ones}
use Rattle.map_core.proofs.union.take_bundles.Given as goal

-- the pairs so far, and the bundles that still count, are all
abbrev pub invariant-loop-domain : goal.invariant-loop-domain
invariant-loop-domain l = l.taken.items ++ bundles_among (last_ones l.rest.items) ≡ bundles_among (last_ones l.initial.rest.items)

abbrev pub decreases-loop-domain : goal.decreases-loop-domain
decreases-loop-domain l = deque_len l.rest
