-- What a list of shards tells an operation, and what it leaves of them.
use Rattle.std.specs.Prelude.{◌≡◌, ℕ, Bool, true, false, ◌&&◌, ◌==◌, List, [], ◌∷◌, ◌++◌, length, get_or, slice_set, Option, Some, None, Result}
use Rattle.map_core.specs.declared.reply.AskError.{AskError}
use Rattle.map_core.specs.declared.reply.Reply.{Reply}
use Rattle.step_core.specs.declared.trace.OpRecord.{OpRecord}
use Rattle.map_core.specs.declared.op.Op.{Op}
use Rattle.step_core.specs.Shard.{ShardVersion, reading, step_on, of_shard}
use Rattle.step_core.specs.Phase.{Observation, Replied, Seen, Revision}
use Rattle.step_core.specs.declared.task.Want.{Want}
use Rattle.step_core.specs.declared.task.Want.TheVariants as want

abbrev pub observation_by : List ShardVersion → Op → Want → Observation
observation_by shards op (want.Do i) = Replied (of_shard i (step_on (reading shards i) op).answer)
observation_by shards op (want.Collect i) = Seen (reading shards i)
observation_by shards op (want.Confirm i) = Revision (reading shards i).revision
observation_by shards op want.Done = Revision 0

abbrev pub left_by : List ShardVersion → Op → Want → List ShardVersion
left_by shards op (want.Do i) = slice_set shards i (step_on (reading shards i) op).shard
left_by shards op want = shards

-- the numbers that stand in the list; an operation that gave up its point has left its place empty
abbrev pub positions : List (Option ℕ) → List ℕ
positions [] = []
positions (None ∷ points) = positions points
positions (Some number ∷ points) = number ∷ positions points

-- whether the number stands here
abbrev pub holds : Option ℕ → ℕ → Bool
holds None number = false
holds (Some x) number = x == number

-- the number stands at this place and nowhere else, if the operation has its point
abbrev pub IsPlaced : List (Option ℕ) → ℕ → Bool → ℕ → Type 0
IsPlaced points number has place = (i : ℕ) → holds (get_or points i None) number ≡ (has && (i == place))

-- the points after an operation has gone on, whose own stood at this place
abbrev pub update_positions : Bool → Bool → ℕ → ℕ → List (Option ℕ) → List (Option ℕ)
update_positions false true number place points = points ++ Some number ∷ []
update_positions true false number place points = slice_set points place None
update_positions had has number place points = points

-- and the place of its own
abbrev pub place_after : Bool → Bool → ℕ → List (Option ℕ) → ℕ
place_after false true place points = length points
place_after had has place points = place

-- a record of an operation that has gone on
abbrev pub with_wrote : OpRecord → Bool → OpRecord
with_wrote r wrote = record { caller = r.caller; op = r.op; first = r.first; last = r.last; reply = r.reply; wrote = wrote }

-- a record of an operation that has ended
abbrev pub with_end : OpRecord → ℕ → Result Reply AskError → OpRecord
with_end r now reply = record { caller = r.caller; op = r.op; first = r.first; last = Some now; reply = Some reply; wrote = r.wrote }
