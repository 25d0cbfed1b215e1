-- What holds between any two atomic steps of the store that threads share: of the words, of the slots, and of what each pass has seen.
use Rattle.std.specs.Prelude.{◌≡◌, ℕ, ◌/◌, ◌%◌, ◌^◌, ◌<◌, ◌≤◌, List, [], ◌∷◌, ◌++◌, length, slice_index, Option, Some, None}
use Rattle.std.specs.Arc.{arc_value}
use Rattle.std.specs.declared.sync.Arc.{Arc}
use mathlib.Core.Option.{some}
use mathlib.Core.Option as maybe
use lib.ListN.{get_elem?}
use Rattle.atomic_table.specs.Table.{State}
use Rattle.map_core.specs.PlainMap.{PlainMap}
use Rattle.shard_store.specs.declared.change.Change.{Change}
use Rattle.shard_store.specs.declared.change.Seen.{Seen}
use Rattle.shard_store.specs.declared.change.View.{View}
use Rattle.shard_store.specs.Changes.{count, HasNumber, Extends, without_last, just_last}
use Rattle.shard_store.specs.Numbers.{IsPart, IsNumbered, IsParted}

-- the numbers of joined passes
abbrev pub numbers_of_joined : List Seen → List (ℕ × ℕ)
numbers_of_joined [] = []
numbers_of_joined (t ∷ ts) = t.ranges ++ numbers_of_joined ts

-- all numbers of a view
abbrev pub numbers : View → List (ℕ × ℕ)
numbers v = v.seen.ranges ++ numbers_of_joined v.joined

-- the first pass: no change seen, and all numbers
abbrev pub first_view : View
first_view = record { seen = record { log = []; ranges = (0, 4294967296) ∷ [] }; joined = []; held = None }

-- a view split in two: what keeps the first numbers, and what is given the last
abbrev pub giver_view : ℕ → View → View
giver_view share v = record v { seen = record v.seen { ranges = without_last share v.seen.ranges } }

abbrev pub receiver_view : ℕ → View → View
receiver_view share v = record { seen = record { log = v.seen.log; ranges = just_last share v.seen.ranges }; joined = []; held = None }

-- a view that takes in what another had seen, and that other, which is left with nothing
abbrev pub joiner_view : View → View → View
joiner_view v w = record v { joined = v.joined ++ w.seen ∷ w.joined }

abbrev pub empty_view : View
empty_view = record { seen = record { log = []; ranges = [] }; joined = []; held = None }

-- the list extends what each of them had seen
abbrev pub ExtendsEach : List Change → List Seen → Type 0
ExtendsEach list [] = Unit {0}
ExtendsEach list (t ∷ ts) = Extends list t × ExtendsEach list ts

-- what a slot holds: a version, or none while it is out
abbrev pub SlotValue : Type 0 → Type 0
SlotValue Z = Option (Arc PlainMap Z)

-- The shard i, of n, with its word and what stands at home in its slot: the word counts the changes of the shard, twice. While no pass
-- holds the shard it is even, and the version is at home, which is the shard's part of the map; while one does it is odd.
pub record IsShard {Z : Type 0} (n word : ℕ) (at_home : maybe.Option (maybe.Option (SlotValue Z))) (list : List Change) (views : List View) (holder i : ℕ) : Type 0 where
  pub counted : word / 2 ≡ count n list i
  pub limited : word / 2 ≤ 2 ^ 62
  pub free : word % 2 ≡ 0 → (version : Arc PlainMap Z) × (at_home ≡ some (some (Some version))) × IsPart n i list (arc_value version)
  pub busy : word % 2 ≡ 1 → (v : View) × (get_elem? views holder ≡ some v) × (v.held ≡ Some i)

-- What the seat's view knows: it has seen a beginning of the list, and all later changes are of others. If it holds a shard, that shard's
-- word is odd, and nobody has changed the shard since.
pub record IsView (n : ℕ) (words : List ℕ) (list : List Change) (holder : ℕ → ℕ) (seat : ℕ) (v : View) : Type 0 where
  pub sees : Extends list v.seen
  pub joined : ExtendsEach list v.joined
  pub limited : (k : ℕ) → HasNumber (numbers v) k → k < 4294967296
  pub parted : IsParted (numbers v)
  pub holds : (i : ℕ) → v.held ≡ Some i → (seat ≡ holder i) × (i < n) × (slice_index words i % 2 ≡ 1) × (count n v.seen.log i ≡ slice_index words i / 2) × ((k : ℕ) × HasNumber (numbers v) k)

-- The rule: there is one list of changes. Each shard is as the list says, each view has seen a beginning of it, after which no change bears
-- one of the view's numbers, and no two views have a number in common.
pub record MeetsRule {Z : Type 0} (s : State (SlotValue Z) View) : Type 0 where
  pub list : List Change
  pub holder : ℕ → ℕ
  pub paired : length s.words ≡ length s.homes
  pub numbered : IsNumbered list
  pub each_shard : (i : ℕ) → i < length s.homes → IsShard (length s.homes) (slice_index s.words i) (get_elem? s.homes i) list s.views (holder i) i
  pub each_view : (j : ℕ) (v : View) → get_elem? s.views j ≡ some v → IsView (length s.homes) s.words list holder j v
  pub apart : (j k : ℕ) (v w : View) → get_elem? s.views j ≡ some v → get_elem? s.views k ≡ some w → (x : ℕ) → HasNumber (numbers v) x → HasNumber (numbers w) x → j ≡ k
