-- What a store begins with, and what stands for a change where none is named.
use Rattle.std.specs.Prelude.{◌≡◌, [], None, Some}
use Rattle.std.specs.Arc.{arc_value}
use Rattle.std.specs.declared.sync.Arc.{Arc}
use Rattle.std.specs.FinMap as finite
use Rattle.map_core.specs.PlainMap.{PlainMap}
use Rattle.shard_store.specs.declared.change.Change.{Change}
use Rattle.shard_store.specs.Rule.{SlotValue}

abbrev pub no_change : Change
no_change = record { name = []; now = None; number = 0 }

-- the slot has a version with no name
abbrev pub IsEmptyVersion : {Z : Type 0} → SlotValue Z → Type 0
IsEmptyVersion {Z} slot = (version : Arc PlainMap Z) × (slot ≡ Some version) × (arc_value version ≡ finite.empty)
