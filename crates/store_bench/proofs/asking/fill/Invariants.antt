use Rattle.shard_store.specs.Pass.{IsOf}
use Rattle.store_bench.proofs.asking.fill.Given as goal

abbrev pub invariant-loop-number : goal.invariant-loop-number
invariant-loop-number l = IsOf l.pass l.store
