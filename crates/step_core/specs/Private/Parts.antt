-- What the shards of one caller keep.
use Rattle.std.specs.Prelude.{◌≡◌, ◌<◌, ℕ, List, length}
use Rattle.map_core.specs.PlainMap.{partition}
use Rattle.step_core.specs.Shard.{ShardVersion, reading}

-- there is a shard, and each holds only names that are at home in it
pub record AreParts (versions : List ShardVersion) : Type 0 where
  pub some : 0 < length versions
  pub at_home : (j : ℕ) → j < length versions → partition (length versions) (reading versions j).part j ≡ (reading versions j).part
