use Rattle.std.proofs.Common.{ℕ, List}
use Rattle.shard_store.specs.declared.change.Change.{Change}
use Rattle.shard_store.specs.Private.LastReads.{AreLastReads}
use Rattle.shard_store.proofs.last_reads.LastReads.make_room.Given as goal

abbrev pub invariant-loop : goal.invariant-loop
invariant-loop l = (n : ℕ) (log : List Change) → AreLastReads n log l.fn.self.by_shard.items → AreLastReads n log l.self.by_shard.items
