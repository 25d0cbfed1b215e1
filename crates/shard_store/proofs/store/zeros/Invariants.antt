use Rattle.std.proofs.Common.{◌≡◌, replicate}
use Rattle.shard_store.proofs.store.zeros.Given as goal

abbrev pub invariant-loop : goal.invariant-loop
invariant-loop l = l.words.items ≡ replicate l.counter 0
