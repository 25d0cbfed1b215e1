-- Shards of one caller: the map that they are together, and what they answer.
use Rattle.std.specs.Prelude.{◌≡◌, ◌⊎◌, ◌<◌, ℕ, true, List, length, slice_set, Option, Some, None, Result, Ok, Err}
use Rattle.map_core.specs.declared.op.Op.{Op}
use Rattle.map_core.specs.declared.reply.Reply.{Reply}
use Rattle.map_core.specs.declared.reply.AskError.{AskError}
use Rattle.map_core.specs.declared.reply.AskError.TheVariants.{Memory, Worn}
use Rattle.map_core.specs.Reply.{is_change}
use Rattle.map_core.specs.PlainMap.{PlainMap, ask, shard_of, merge}
use Rattle.step_core.specs.Shard.{ShardVersion, reading, last_revision, step_on}

-- all parts, together
abbrev pub map_of : List ShardVersion → PlainMap
map_of versions = merge (length versions) (λ j. (reading versions j).part)

-- the shards after an operation: the one that it is for has made its step, and all others stay; a fetch-all leaves all
abbrev pub after_step_at : List ShardVersion → Op → Option ℕ → List ShardVersion
after_step_at versions op (Some i) = slice_set versions i (step_on (reading versions i) op).shard
after_step_at versions op None = versions

abbrev pub after_step : List ShardVersion → Op → List ShardVersion
after_step versions op = after_step_at versions op (shard_of (length versions) op)

-- the operation would change the map, and its shard i is at the last revision
pub record IsWorn (versions : List ShardVersion) (op : Op) (i : ℕ) : Type 0 where
  pub home : shard_of (length versions) op ≡ Some i
  pub small : i < length versions
  pub last : (reading versions i).revision ≡ last_revision
  pub changes : is_change (ask (map_of versions) op).reply ≡ true

-- why an operation is refused: there was no memory, or its shard is worn
abbrev pub Refuses : List ShardVersion → Op → AskError → Type 0
Refuses versions op e = (e ≡ Memory) ⊎ ((i : ℕ) × (e ≡ Worn i) × IsWorn versions op i)

-- The plain map's reply, and its map is left, by a step of one shard; or a refusal, and nothing has changed.
abbrev pub ShardsAnswer : List ShardVersion → Op → Result Reply AskError → List ShardVersion → Type 0
ShardsAnswer old op (Ok reply) new = (reply ≡ (ask (map_of old) op).reply) × (map_of new ≡ (ask (map_of old) op).map) × (new ≡ after_step old op)
ShardsAnswer old op (Err e) new = Refuses old op e × (new ≡ old)
