use Rattle.std.proofs.Common.{◌≡◌}
use Rattle.map_tests.proofs.stores.scripts.play_rows.Given as goal

abbrev pub invariant-loop-number : goal.invariant-loop-number
invariant-loop-number l = l.seats ≡ l.fn.seats

abbrev pub invariant-loop-row : goal.invariant-loop-row
invariant-loop-row l = l.seats ≡ l.fn.seats
