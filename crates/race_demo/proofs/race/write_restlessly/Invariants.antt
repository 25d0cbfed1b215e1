use Rattle.std.proofs.Common.{◌≤◌}
use Rattle.shard_store.specs.Pass.{IsOf}
use Rattle.race_demo.proofs.race.write_restlessly.Given as goal

-- the pass is of the store, and there were at most as many sets as turns
abbrev pub invariant-loop : goal.invariant-loop
invariant-loop g l = IsOf l.pass l.fn.store × (l.sets ≤ l.counter)
