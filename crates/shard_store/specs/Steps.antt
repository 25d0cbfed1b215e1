-- The kinds of step on a word of the store that threads share, and what each tells the pass that makes it. No other view changes. A version is
-- taken out of its slot, and put there, by the pass that holds the shard: no view changes then.
use Rattle.std.specs.Prelude.{◌≡◌, ◌≢◌, ℕ, ◌/◌, ◌%◌, ◌^◌, ◌<◌, ◌≤◌, List, [], ◌∷◌, ◌++◌, Option, Some, None}
use Rattle.std.specs.Arc.{arc_value}
use Rattle.std.specs.declared.sync.Arc.{Arc}
use Rattle.atomic_table.specs.Table.{Me, Step, rest}
use Rattle.map_core.specs.PlainMap.{PlainMap}
use Rattle.shard_store.specs.declared.change.Change.{Change}
use Rattle.shard_store.specs.declared.change.View.{View}
use Rattle.shard_store.specs.Changes.{count, HasNumber, Extends}
use Rattle.shard_store.specs.Numbers.{IsPart, IsNumbered}
use Rattle.shard_store.specs.Rule.{SlotValue, numbers, ExtendsEach}

-- the view after all changes of the list were seen
abbrev pub view_after : List Change → View → Option ℕ → View
view_after list v held = record { seen = record { log = list; ranges = numbers v }; joined = []; held = held }

-- the list was seen, which begins with all that was seen and joined before, and else has only changes of others
abbrev pub Sees : View → List Change → Type 0
Sees v list = Extends list v.seen × ExtendsEach list v.joined × IsNumbered list

-- no other seat has a number
abbrev pub HasAllNumbers : View → Type 0
HasAllNumbers v = (k : ℕ) → k < 4294967296 → HasNumber (numbers v) k

module _ {Z : Type 0} where
  -- a load: the word is twice the count of its shard, and one more while a pass holds it
  abbrev pub LoadsWord : Step (SlotValue Z) → Me (SlotValue Z) View → ℕ → Me (SlotValue Z) View → Type 0
  LoadsWord st m found m' = (list : List Change) × (m' ≡ (view_after list m.0 m.0.held, m.1)) × Sees m.0 list
      × (found / 2 ≡ count st.slots list st.word) × (HasAllNumbers m.0 → found % 2 ≡ 1 → m.0.held ≡ Some st.word) × (found / 2 ≤ 2 ^ 62)

  -- the seat holds the shard, and has its version in hand
  abbrev pub HasTaken : Step (SlotValue Z) → List Change → Me (SlotValue Z) View → Me (SlotValue Z) View → Type 0
  HasTaken st list m m' = (version : Arc PlainMap Z) × (m' ≡ (view_after list m.0 (Some st.word), (st.word, Some version) ∷ m.1)) × IsPart st.slots st.word list (arc_value version)

  -- an exchange that takes the shard if the word is the one expected
  abbrev pub TakesShard : Step (SlotValue Z) → Me (SlotValue Z) View → ℕ → Me (SlotValue Z) View → Type 0
  TakesShard st m found m' = (list : List Change) × Sees m.0 list × (found / 2 ≡ count st.slots list st.word) × (HasAllNumbers m.0 → found % 2 ≡ 0)
      × (found ≡ st.first → HasTaken st list m m') × (found ≢ st.first → m' ≡ (view_after list m.0 None, m.1))

  -- the shard was let go, unchanged
  abbrev pub ReleasesShard : Step (SlotValue Z) → Me (SlotValue Z) View → ℕ → Me (SlotValue Z) View → Type 0
  ReleasesShard st m found m' = m' ≡ (record m.0 { held = None }, rest m.1)

  -- the shard was let go with one change more, before which others made none of it
  abbrev pub PublishesChange : Change → Step (SlotValue Z) → Me (SlotValue Z) View → ℕ → Me (SlotValue Z) View → Type 0
  PublishesChange change st m found m' = (list : List Change) × Sees m.0 list × (count st.slots list st.word ≡ count st.slots m.0.seen.log st.word)
      × (m' ≡ (view_after (list ++ change ∷ []) m.0 None, rest m.1))
