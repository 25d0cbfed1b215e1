-- The laws of the plain map.
use Rattle.std.specs.Prelude.{◌≡◌, ◌≢◌, ◌<◌, ℕ, true, List, [], ◌∷◌, Option, Some, None}
use Rattle.std.specs.FinMap as finite
use Rattle.std.specs.declared.cmp.Ordering.TheVariants.{Less}
use Rattle.spiffe_doc.specs.Authority.{BundleValue}
use Rattle.map_core.specs.declared.op.Op.{Op}
use Rattle.map_core.specs.declared.op.Op.TheVariants.{FetchAll}
use Rattle.map_core.specs.declared.reply.Reply.TheVariants.{All}
use Rattle.map_core.specs.Name.{Name, name_cmp}
use Rattle.map_core.specs.Op.{domain_of}
use Rattle.map_core.specs.Reply.{is_change}
use Rattle.map_core.specs.PlainMap.{PlainMap, ask, shard_of, partition, merge}

-- The reply of an operation on one name, and what that name holds then, follow from what it held; all other names keep theirs.
abbrev pub DependsOnName : Type 0
DependsOnName =
    (m n : PlainMap) (op : Op) (d : Name) → domain_of op ≡ Some d → finite.get m d ≡ finite.get n d →
    ((ask m op).reply ≡ (ask n op).reply) × (finite.get (ask m op).map d ≡ finite.get (ask n op).map d)
    × ((other : Name) → other ≢ d → finite.get (ask m op).map other ≡ finite.get m other)

-- A reply reports a change if and only if the map changed.
abbrev pub TellsOfChange : Type 0
TellsOfChange = (m : PlainMap) (op : Op) → ((ask m op).map ≢ m → is_change (ask m op).reply ≡ true) × (is_change (ask m op).reply ≡ true → (ask m op).map ≢ m)

-- The parts of a map, by the homes of the names, are together the map.
abbrev pub PartsTogether : Type 0
PartsTogether = (n : ℕ) (m : PlainMap) → 0 < n → merge n (partition n m) ≡ m

-- An operation on one name is answered by the part of its home, which it changes as it changes the map; the other parts stay.
abbrev pub AskedAtHome : Type 0
AskedAtHome =
    (n : ℕ) (m : PlainMap) (op : Op) (i : ℕ) → shard_of n op ≡ Some i →
    ((ask (partition n m i) op).reply ≡ (ask m op).reply) × (partition n (ask m op).map i ≡ (ask (partition n m i) op).map)
    × ((j : ℕ) → j ≢ i → partition n (ask m op).map j ≡ partition n m j)

-- the name comes after the last one, if any
abbrev pub IsAfter : Option Name → Name → Type 0
IsAfter None name = Unit {0}
IsAfter (Some last) name = name_cmp last name ≡ Less

-- each name comes after the one before it, and the first after the last one given
abbrev pub Ascends : Option Name → List (Name × BundleValue) → Type 0
Ascends last [] = Unit {0}
Ascends last (pair ∷ pairs) = IsAfter last pair.0 × Ascends (Some pair.0) pairs

-- The names in the reply to a fetch-all rise strictly, in byte order.
abbrev pub NamesRise : Type 0
NamesRise = (m : PlainMap) (pairs : List (Name × BundleValue)) → (ask m FetchAll).reply ≡ All pairs → Ascends None pairs
