-- What stands of the map in a shard, and how numbers are ranged.
use Rattle.std.specs.Prelude.{◌≡◌, ℕ, ◌+◌, ◌<◌, ◌≤◌, List, ◌∷◌, []}
use Rattle.map_core.specs.PlainMap.{PlainMap, partition}
use Rattle.shard_store.specs.declared.change.Change.{Change}
use Rattle.shard_store.specs.Changes.{after, HasNumber}

-- the contents are the shard's part of the map after the changes
abbrev pub IsPart : ℕ → ℕ → List Change → PlainMap → Type 0
IsPart n shard log contents = contents ≡ partition n (after log) shard

-- each change bears a number that a pass can have
abbrev pub IsNumbered : List Change → Type 0
IsNumbered [] = Unit {0}
IsNumbered (c ∷ cs) = (c.number < 4294967296) × IsNumbered cs

-- no number is in two of the ranges
abbrev pub IsParted : List (ℕ × ℕ) → Type 0
IsParted [] = Unit {0}
IsParted (r ∷ rs) = ((k : ℕ) → r.0 ≤ k → k < r.0 + r.1 → ¬ HasNumber rs k) × IsParted rs
