-- What was read of a shard, and when it is still so.
use Rattle.std.specs.Prelude.{◌≡◌, ◌≢◌, ℕ, ◌<◌, ◌≤◌, List, ◌++◌, length, slice_index_or, Some}
use Rattle.std.specs.Arc.{arc_value}
use Rattle.std.specs.declared.sync.Arc.{Arc}
use Rattle.map_core.specs.PlainMap.{PlainMap, partition}
use Rattle.shard_store.specs.declared.change.Change.{Change}
use Rattle.shard_store.specs.declared.change.Seen.{Seen}
use Rattle.shard_store.specs.declared.fetch.Movement.{Movement}
use Rattle.shard_store.specs.Rule.{SlotValue}
use Rattle.shard_store.specs.Changes.{after, count, Extends}
use Rattle.shard_store.specs.Numbers.{IsPart}

-- the versions are the map's parts, in order
abbrev pub ArePartsOf : {Z : Type 0} → PlainMap → List (Arc PlainMap Z) → Type 0
ArePartsOf {Z} m parts = (k : ℕ) (d : Arc PlainMap Z) → k < length parts → arc_value (slice_index_or parts k d) ≡ partition (length parts) m k

-- so are those that the slots hold
abbrev pub HoldPartsOf : {Z : Type 0} → PlainMap → List (SlotValue Z) → Type 0
HoldPartsOf {Z} m slots = (k : ℕ) (d : SlotValue Z) → k < length slots → (version : Arc PlainMap Z) × (slice_index_or slots k d ≡ Some version) × (arc_value version ≡ partition (length slots) m k)

-- the version of the shard, of n, was read with this revision, after the first pass's log and before the second's
abbrev pub WasRead : {Z : Type 0} → ℕ → ℕ → List Change → List Change → ℕ → Arc PlainMap Z → Type 0
WasRead {Z} n shard from log revision version = (seen : List Change) × (new : List Change) × (log ≡ seen ++ new)
    × (count n seen shard ≡ revision) × IsPart n shard seen (arc_value version) × (count n from shard ≤ revision)

-- so were all shards
abbrev pub WereRead : {Z : Type 0} → ℕ → List Change → List Change → List ℕ → List (Arc PlainMap Z) → Type 0
WereRead {Z} n from log revisions versions = (length revisions ≡ length versions)
    × ((k : ℕ) (d : Arc PlainMap Z) → k < length versions → WasRead n k from log (slice_index_or revisions k 0) (slice_index_or versions k d))

-- no shard has had more changes than its revision says
abbrev pub AreConfirmed : ℕ → List Change → List ℕ → Type 0
AreConfirmed n log revisions = (k : ℕ) → k < length revisions → count n log k ≤ slice_index_or revisions k 0

-- the shard was found with another revision, after the first log and before the second
abbrev pub IsMovement : ℕ → List Change → List Change → List ℕ → Movement → Type 0
IsMovement n from log revisions movement = (movement.shard < length revisions) × (movement.first ≡ slice_index_or revisions movement.shard 0) × (movement.first ≢ movement.second)
    × (count n from movement.shard ≤ movement.second) × (movement.second ≡ count n log movement.shard)

-- the shards, n of them, have these revisions after the changes
abbrev pub AreRevisions : ℕ → List Change → List ℕ → Type 0
AreRevisions n log revisions = (length revisions ≡ n) × ((k : ℕ) → k < n → count n log k ≡ slice_index_or revisions k 0)

-- these are the parts of the map and their revisions after a list that begins with what the pass had seen, and that it has
-- seen now
abbrev pub IsSnapshot : {Z : Type 0} → ℕ → Seen → Seen → List ℕ → List (Arc PlainMap Z) → Type 0
IsSnapshot n s t revisions parts = (list : List Change) × Extends list s × Extends t.log (record { log = list; ranges = s.ranges }) × (t.ranges ≡ s.ranges)
    × (length parts ≡ n) × ArePartsOf (after list) parts × AreRevisions n list revisions
