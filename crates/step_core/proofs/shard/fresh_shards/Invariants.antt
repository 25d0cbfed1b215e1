use Rattle.std.proofs.Common.{◌≡◌, ◌<◌, ℕ, length}
use Rattle.step_core.specs.Shard.{reading, fresh_shard}
use Rattle.step_core.proofs.shard.fresh_shards.Given as goal

abbrev pub invariant-loop : goal.invariant-loop
invariant-loop l = (length l.shards.items ≡ l.counter) × ((i : ℕ) → i < l.counter → reading l.shards.items i ≡ fresh_shard)
