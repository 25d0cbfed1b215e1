-- The end of a store that workers shared.
use Rattle.std.specs.Prelude.{◌≡◌, ℕ, ◌-◌, ◌<◌, List, [], ◌∷◌, ◌++◌, length, Result, Ok, Err}
use Rattle.std.specs.List.{flat_map, All, AllByRecursion}
use Rattle.map_core.specs.PlainMap.{PlainMap}
use Rattle.shard_store.specs.declared.change.Change.{Change}
use Rattle.shard_store.specs.declared.close.CloseError.{CloseError}
use Rattle.shard_store.specs.declared.close.CloseError.TheVariants.{Memory, HeldAtEnd}
use Rattle.shard_store.specs.Changes.{after, Extends, HasNumber}
use Rattle.shard_store.specs.Pass.{PassView}
use Rattle.workers.specs.declared.ended.Worked.{Worked}

-- the ranges of numbers that the passes have
abbrev pub ranges_of : List PassView → List (ℕ × ℕ)
ranges_of passes = flat_map (λ pass. pass.seen.ranges) passes

-- no other pass has a number
abbrev pub AreAll : List (ℕ × ℕ) → Type 0
AreAll ranges = (k : ℕ) → k < 4294967296 → HasNumber ranges k

-- the pass has one number
abbrev pub HasOne : PassView → Type 0
HasOne pass = (number : ℕ) × (pass.seen.ranges ≡ (number, 1) ∷ [])

-- each pass but the last has one number, and the last has the rest
pub record AreShared (passes : List PassView) : Type 0 where
  pub others : List PassView
  pub last : PassView
  pub all : passes ≡ others ++ last ∷ []
  pub one : All HasOne others
  pub rest : last.seen.ranges ≡ (0, 4294967296 - length others) ∷ []

-- The map after a list of changes that extends what each worker had seen at its end; or out of memory. No pass holds a shard
-- any more.
abbrev pub ClosesAs : List Worked → Result PlainMap CloseError → Type 0
ClosesAs worked (Ok contents) = (list : List Change) × AllByRecursion (λ w. Extends list w.pass.seen) worked × (contents ≡ after list)
ClosesAs worked (Err Memory) = Unit {0}
ClosesAs worked (Err (HeldAtEnd shard)) = ⊥
