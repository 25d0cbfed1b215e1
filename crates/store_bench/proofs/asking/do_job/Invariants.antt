use Rattle.shard_store.specs.Pass.{IsOf}
use Rattle.store_bench.proofs.asking.do_job.Given as goal

abbrev pub invariant-loop-turn : goal.invariant-loop-turn
invariant-loop-turn l = IsOf l.pass l.store
