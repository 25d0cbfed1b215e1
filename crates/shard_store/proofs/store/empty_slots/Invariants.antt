use Rattle.std.proofs.Common.{◌≡◌, length}
use Rattle.std.specs.List.{All}
use Rattle.shard_store.specs.Private.Fresh.{IsEmptyVersion}
use Rattle.shard_store.proofs.store.empty_slots.Given as goal

abbrev pub invariant-loop : goal.invariant-loop
invariant-loop l = (length l.slots.items ≡ l.counter) × All IsEmptyVersion l.slots.items
