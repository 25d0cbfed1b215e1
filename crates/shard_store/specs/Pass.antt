-- What contracts see of a store, of a pass, of a pass that holds a shard, and of a pass at its store.
use Rattle.std.specs.Prelude.{◌≡◌, ℕ}
use Rattle.atomic_table.specs.Seated.{TableId}
use Rattle.shard_store.specs.declared.change.Seen.{Seen}
use Rattle.shard_store.specs.declared.tally.Tally.{Tally}

-- which store it is, with how many shards, how many rounds a fetch-all makes, and how many tries a call makes at one
-- shard
pub record StoreView : Type 0 where
  pub id : TableId
  pub rounds : ℕ
  pub tries : ℕ

-- the store that it comes from, what it has seen, and what its changes did
pub record PassView : Type 0 where
  pub store : TableId
  pub seen : Seen
  pub tally : Tally

pub record HeldPassView : Type 0 where
  pub store : TableId
  pub seen : Seen
  pub tally : Tally
  pub shard : ℕ

pub record SeatedView : Type 0 where
  pub store : StoreView
  pub seen : Seen

-- the pass comes from the store
abbrev pub IsOf : PassView → StoreView → Type 0
IsOf p s = p.store ≡ s.id
