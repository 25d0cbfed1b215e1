use Rattle.shard_store.specs.Pass.{IsOf}
use Rattle.race_demo.proofs.seats.read_each.Given as goal

-- the pass is of the store
abbrev pub invariant-loop-place : goal.invariant-loop-place
invariant-loop-place l = IsOf l.pass l.fn.store
