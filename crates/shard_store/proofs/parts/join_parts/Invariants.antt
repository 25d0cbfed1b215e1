use Rattle.std.proofs.Common.{◌≡◌, length}
use Rattle.map_core.specs.PlainMap.{PlainMap, partition, merge}
use Rattle.shard_store.specs.Private.Readings.{ArePartsOf}
use Rattle.shard_store.proofs.parts.join_parts.Given as goal

abbrev pub invariant-loop-part : goal.invariant-loop-part
invariant-loop-part l = (m : PlainMap) → ArePartsOf m l.parts → l.all ≡ merge l.part-index (partition (length l.parts) m)
