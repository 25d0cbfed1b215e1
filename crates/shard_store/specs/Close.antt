-- What a store gives at its end.
use Rattle.std.specs.Prelude.{◌≡◌, ℕ, ◌<◌, List, Result, Ok, Err}
use Rattle.map_core.specs.PlainMap.{PlainMap}
use Rattle.shard_store.specs.declared.change.Change.{Change}
use Rattle.shard_store.specs.declared.change.Seen.{Seen}
use Rattle.shard_store.specs.declared.close.CloseError.{CloseError}
use Rattle.shard_store.specs.declared.close.CloseError.TheVariants.{Memory, HeldAtEnd}
use Rattle.shard_store.specs.Changes.{after, Extends}
use Rattle.shard_store.specs.Pass.{StoreView}
use Rattle.shard_store.specs.Promise.{IsAlone}

-- The map after a list that extends what the pass has seen; or out of memory; or a shard that another pass holds.
abbrev pub CloseAnswer : StoreView → Seen → Result PlainMap CloseError → Type 0
CloseAnswer store s (Ok contents) = (list : List Change) × Extends list s × (contents ≡ after list)
CloseAnswer store s (Err Memory) = Unit {0}
CloseAnswer store s (Err (HeldAtEnd shard)) = (shard < store.id.slots) × (¬ IsAlone s)

abbrev pub close_number : CloseError → ℕ
close_number Memory = 22
close_number (HeldAtEnd shard) = 43
