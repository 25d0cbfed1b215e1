-- One shard by itself: how often it was changed, what it holds, and what one step of it does.
use Rattle.std.specs.Prelude.{ℕ, ◌+◌, ◌==◌, cond, List, Result, Ok, Err, get_or}
use Rattle.std.specs.FinMap as finite
use Rattle.map_core.specs.declared.op.Op.{Op}
use Rattle.map_core.specs.declared.reply.Reply.{Reply}
use Rattle.map_core.specs.declared.reply.AskError.{AskError}
use Rattle.map_core.specs.declared.reply.AskError.TheVariants.{Worn}
use Rattle.map_core.specs.Reply.{is_change}
use Rattle.map_core.specs.PlainMap.{PlainMap, AskResult, ask}

-- a shard as it stands, or as it was read: its revision, which is how often it was changed, and the part of the map that it holds
pub record ShardVersion : Type 0 where
  pub revision : ℕ
  pub part : PlainMap

-- a shard that was never changed
abbrev pub fresh_shard : ShardVersion
fresh_shard = record { revision = 0; part = finite.empty }

-- the version of shard j, in a list of all
abbrev pub reading : List ShardVersion → ℕ → ShardVersion
reading versions j = get_or versions j fresh_shard

-- the largest revision, 2^62
abbrev pub last_revision : ℕ
last_revision = 4611686018427387904

-- a step of one shard: the answer, and the shard after it
pub record StepResult : Type 0 where
  pub answer : Result Reply AskError
  pub shard : ShardVersion

-- the revision rises by one if the part changes, and nothing changes at the largest one
abbrev pub step_result : ShardVersion → AskResult → StepResult
step_result v asked =
    cond (is_change asked.reply)
    (cond (v.revision == last_revision)
    (record { answer = Err (Worn 0); shard = v })
    (record { answer = Ok asked.reply; shard = record { revision = v.revision + 1; part = asked.map } }))
    (record { answer = Ok asked.reply; shard = v })

abbrev pub step_on : ShardVersion → Op → StepResult
step_on v op = step_result v (ask v.part op)

-- the answer of shard i of several: a worn shard does not know its number
abbrev pub of_shard : ℕ → Result Reply AskError → Result Reply AskError
of_shard i (Err (Worn shard)) = Err (Worn i)
of_shard i answer = answer
