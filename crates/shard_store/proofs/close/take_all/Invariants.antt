use Rattle.std.proofs.Common.{◌≡◌, ℕ, ◌<◌, ◌≤◌, true, false, get_or, take}
use Rattle.std.specs.Mem.Slots.{slots_items, slots_filled, slots_len}
use Rattle.shard_store.proofs.close.take_all.Given as goal

abbrev pub invariant-loop-shard : goal.invariant-loop-shard
invariant-loop-shard l = record {
  same : slots_items l.closed.slots ≡ slots_items l.fn.closed.slots;
  long : slots_len l.closed.slots ≡ slots_len l.fn.closed.slots;
  gone : (k : ℕ) → k < l.shard → get_or (slots_filled l.closed.slots) k false ≡ false;
  left : (k : ℕ) → l.shard ≤ k → k < slots_len l.fn.closed.slots → get_or (slots_filled l.closed.slots) k false ≡ true;
  taken : l.is_short ≡ false → l.slots.items ≡ take l.shard (slots_items l.fn.closed.slots);
}
