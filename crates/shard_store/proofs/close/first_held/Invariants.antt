use Rattle.std.proofs.Common.{◌≡◌, ℕ, ◌%◌, ◌<◌, get_or}
use Rattle.std.specs.Mem.Slots.{slots_items}
use Rattle.shard_store.proofs.close.first_held.Given as goal

abbrev pub invariant-loop-shard : goal.invariant-loop-shard
invariant-loop-shard l = (k : ℕ) → k < l.shard → get_or (slots_items l.closed.words) k 0 % 2 ≡ 0
