use Rattle.shard_store.specs.Pass.{IsOf}
use Rattle.map_tests.proofs.stores.threads.count_changes.Given as goal

abbrev pub invariant-loop-shard : goal.invariant-loop-shard
invariant-loop-shard l = IsOf l.pass l.store
