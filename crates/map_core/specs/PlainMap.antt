-- The plain map: one finite map from names to what they hold, and one operation after another.
use Rattle.std.specs.Prelude.{ℕ, zero, suc, List, [], ◌∷◌, ◌++◌, Option, Some, None, option_map, option_and_then, ◌%◌, ◌==◌, sum}
use Rattle.std.specs.Option.{unwrap_or}
use Rattle.std.specs.FinMap.{FinMap}
use Rattle.std.specs.FinMap as finite
use Rattle.spiffe_doc.specs.Authority.{BundleValue}
use Rattle.map_core.specs.declared.op.Op.{Op}
use Rattle.map_core.specs.declared.held.Holding.{Holding}
use Rattle.map_core.specs.declared.held.Holding.TheVariants.{Published, Mark}
use Rattle.map_core.specs.declared.reply.Reply.{Reply}
use Rattle.map_core.specs.Name.{Name, name_cmp}
use Rattle.map_core.specs.Op.{domain_of}
use Rattle.map_core.specs.declared.held.Standing.{Standing}
use Rattle.map_core.specs.Table.{OnName, On_name, On_all, meaning, fetched, standing}

-- a finite map from names to what they hold: two of them that hold the same under each name are one
abbrev pub PlainMap : Type 0
PlainMap = FinMap name_cmp Holding

-- the map with this under the name d, or with nothing there
abbrev pub put : PlainMap → Name → Option Holding → PlainMap
put m d (Some held) = finite.insert m d held
put m d None = finite.remove m d

-- the bundles among the entries, with their names
abbrev pub bundles_among : List (Name × Holding) → List (Name × BundleValue)
bundles_among [] = []
bundles_among (e ∷ es) = elim e.1 [ Published b ↦ (e.0, b) ∷ bundles_among es | Mark s ↦ bundles_among es ]

-- all bundles of the map, in order of their names
abbrev pub bundles : PlainMap → List (Name × BundleValue)
bundles m = bundles_among (finite.entries m)

-- the reply to an operation, and the map after it
pub record AskResult : Type 0 where
  pub reply : Reply
  pub map : PlainMap

-- the row is asked what the name holds, and what it leaves is put back; a fetch-all tells of all bundles
abbrev pub ask_on : PlainMap → OnName → AskResult
ask_on m (On_name d table) = let outcome = table (finite.get m d) in record { reply = outcome.reply; map = put m d outcome.held }
ask_on m (On_all known) = record { reply = fetched known (bundles m); map = m }

-- what an operation is answered, and what is held then
unfoldable pub ask : PlainMap → Op → AskResult
ask m op = ask_on m (meaning op)

-- what stands under the name of an operation; nothing for a fetch-all
abbrev pub standing_for : PlainMap → Op → Standing
standing_for m op = standing (option_and_then (finite.get m) (domain_of op))

-- the name of an operation on one name (of a fetch-all nothing is said)
unfoldable pub name_of : Op → Name
name_of op = unwrap_or (domain_of op) []

-- the shard that a name belongs to, of n
unfoldable pub home : ℕ → Name → ℕ
home n d = sum d % n

-- the shard that an operation on one name is for, of n; none for a fetch-all
unfoldable pub shard_of : ℕ → Op → Option ℕ
shard_of n op = option_map (home n) (domain_of op)

-- what stands under the names that belong to shard i, of n
unfoldable pub partition : ℕ → PlainMap → ℕ → PlainMap
partition n m i = finite.retain_keys m (λ d. home n d == i)

-- the entries of p, and those of m under the names that p does not have
abbrev pub union : PlainMap → PlainMap → PlainMap
union m p = finite.from_entries (finite.entries p ++ finite.entries m)

-- the first count of the parts, together
unfoldable pub merge : ℕ → (ℕ → PlainMap) → PlainMap
merge zero parts = finite.empty
merge (suc count) parts = union (merge count parts) (parts count)
