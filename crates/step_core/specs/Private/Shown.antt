-- When the program's driver shows a run.
use Rattle.std.specs.Prelude.{◌≡◌, ℕ, ◌<◌, true, false, List, length, get_or, Option, Some, None}
use Rattle.std.specs.Ordering.{nat_cmp}
use Rattle.std.specs.BTreeMap as tree
use Rattle.map_core.specs.Op.{known_of}
use Rattle.step_core.specs.Shard.{ShardVersion, reading}
use Rattle.step_core.specs.Phase.{Idle, has_point, is_idle}
use Rattle.step_core.specs.declared.trace.OpRecord.{OpRecord}
use Rattle.step_core.specs.Run.{Run, numbers}
use Rattle.step_core.specs.Records.{no_record}
use Rattle.step_core.specs.Private.Driver.{positions, holds, IsPlaced}
use Rattle.step_core.specs.declared.driver.Running.{Running}
use Rattle.step_core.specs.declared.driver.Driver.{Driver}

-- the list shows the shards of a world
pub record ShowsShards (n : ℕ) (shards : List ShardVersion) (world : ℕ → ShardVersion) : Type 0 where
  pub size : length shards ≡ n
  pub each : (i : ℕ) → i < n → reading shards i ≡ world i

-- the list shows the first records
pub record ShowsRecords (list : List OpRecord) (count : ℕ) (records : ℕ → OpRecord) : Type 0 where
  pub size : length list ≡ count
  pub each : (q : ℕ) → q < count → get_or list q no_record ≡ records q

-- the caller's operation: its number, how far it is, and the place of its point
pub record ShowsCaller (n rounds : ℕ) (run : Run) (points : List (Option ℕ)) (c : ℕ) (running : Running) : Type 0 where
  pub number : running.number ≡ run.current c
  pub known : running.number < run.count
  pub caller : (run.records (run.current c)).caller ≡ c
  pub op : run.world.ops c ≡ (run.records (run.current c)).op
  pub busy : is_idle (run.world.phases c) ≡ false
  pub task : running.task ≡ record { shards = n; rounds = rounds; known = known_of (run.world.ops c); phase = run.world.phases c }
  pub place : IsPlaced points running.number (has_point running.task.phase) running.place

-- an idle caller has no operation
abbrev pub IsCaller : ℕ → ℕ → Run → List (Option ℕ) → ℕ → Option Running → Type 0
IsCaller n rounds run points c None = run.world.phases c ≡ Idle
IsCaller n rounds run points c (Some running) = ShowsCaller n rounds run points c running

pub record IsShown (n rounds : ℕ) (driver : Driver) (run : Run) : Type 0 where
  pub rounds_are : driver.rounds ≡ rounds
  pub shards : ShowsShards n driver.shards.items run.world.shards
  pub callers : (c : ℕ) → IsCaller n rounds run driver.points.items c (tree.get nat_cmp driver.callers c)
  pub records : ShowsRecords driver.ops.items run.count run.records
  pub points : positions driver.points.items ≡ numbers run.points
  pub known : (i q : ℕ) → holds (get_or driver.points.items i None) q ≡ true → q < run.count
