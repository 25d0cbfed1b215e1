use Rattle.std.proofs.Common.{◌≡◌, length}
use Rattle.map_core.specs.PlainMap.{PlainMap, partition, merge}
use Rattle.shard_store.specs.Private.Readings.{HoldPartsOf}
use Rattle.shard_store.proofs.close.join_slots.Given as goal

abbrev pub invariant-loop-slot : goal.invariant-loop-slot
invariant-loop-slot l = (m : PlainMap) → HoldPartsOf m l.slots → l.all ≡ merge l.slot-index (partition (length l.slots) m)
