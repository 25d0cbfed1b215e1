use Rattle.std.proofs.Common.{◌≡◌}
use Rattle.map_tests.proofs.stores.scripts.play_removed.Given as goal

abbrev pub invariant-loop-line : goal.invariant-loop-line
invariant-loop-line l = l.seats ≡ l.store
