-- What a pass remembers of the shards.
use Rattle.std.specs.Prelude.{◌≡◌, ℕ, List, [], Option, Some, None, slice_index_or}
use Rattle.std.specs.Arc.{arc_value}
use Rattle.shard_store.specs.declared.change.Change.{Change}
use Rattle.shard_store.specs.declared.last_reads.LastRead.{LastRead}
use Rattle.shard_store.specs.Changes.{count}
use Rattle.shard_store.specs.Numbers.{IsPart}
use Rattle.shard_store.specs.Private.Readings.{WasRead}

-- What was read of the shard, of n, if anything: at some point of the log it had this revision, and the version was its
-- part.
abbrev pub IsLastRead : ℕ → ℕ → List Change → Option LastRead → Type 0
IsLastRead n shard log read = (r : LastRead) → read ≡ Some r → WasRead n shard [] log r.revision r.version

-- so for each shard
abbrev pub AreLastReads : ℕ → List Change → List (Option LastRead) → Type 0
AreLastReads n log reads = (shard : ℕ) → IsLastRead n shard log (slice_index_or reads shard None)

-- the shard, of n, has the revision that was read, and the version is its part
abbrev pub IsAsRead : ℕ → ℕ → List Change → LastRead → Type 0
IsAsRead n shard log r = (count n log shard ≡ r.revision) × IsPart n shard log (arc_value r.version)
