-- One operation by itself: how far it is, what it wants to be told, and what it does with that.
use Rattle.std.specs.Prelude.{ℕ, ◌+◌, ◌==◌, Bool, true, false, cond, List, [], ◌∷◌, ◌++◌, length, Option, Some, None, Result, Ok, Err}
use Rattle.map_core.specs.declared.op.Op.{Op}
use Rattle.map_core.specs.declared.reply.Reply.{Reply}
use Rattle.map_core.specs.declared.reply.AskError.{AskError}
use Rattle.map_core.specs.declared.reply.AskError.TheVariants.{Moved}
use Rattle.map_core.specs.Reply.{is_change}
use Rattle.map_core.specs.PlainMap.{bundles, shard_of, merge}
use Rattle.map_core.specs.Table.{fetched}
use Rattle.step_core.specs.declared.task.Want.{Want}
use Rattle.step_core.specs.declared.task.Want.TheVariants as want
use Rattle.step_core.specs.Shard.{ShardVersion, reading}

-- how far an operation is
pub data Phase : Type 0 where
  Idle : Phase
  -- it waits for a step of this shard
  Waiting : ℕ → Phase
  -- the round, and the readings so far
  Collecting : ℕ → List ShardVersion → Phase
  -- the round, all readings, and how many are confirmed
  Confirming : ℕ → List ShardVersion → ℕ → Phase
  Done : Result Reply AskError → Phase

-- what an operation under way is told: the answer of its step, a shard as it was read, or a shard's revision
pub data Observation : Type 0 where
  Replied : Result Reply AskError → Observation
  Seen : ShardVersion → Observation
  Revision : ℕ → Observation

-- how an operation begins: one on a name at its shard, a fetch-all in the first round
abbrev pub start_phase_at : Option ℕ → Phase
start_phase_at (Some i) = Waiting i
start_phase_at None = Collecting 1 []

abbrev pub start_phase : ℕ → Op → Phase
start_phase n op = start_phase_at (shard_of n op)

-- what it wants to be told next
abbrev pub wants : Phase → Want
wants (Waiting i) = want.Do i
wants (Collecting round readings) = want.Collect (length readings)
wants (Confirming round readings k) = want.Confirm k
wants phase = want.Done

-- after one more reading: with n readings all are to be confirmed
abbrev pub after_reading : ℕ → ℕ → List ShardVersion → Phase
after_reading n round readings = cond (length readings == n) (Confirming round readings 0) (Collecting round readings)

-- the reply of a fetch-all that was confirmed: the bundles of the parts together, by the digest that it knows
abbrev pub snapshot_reply : ℕ → Option (List ℕ) → List ShardVersion → Reply
snapshot_reply n known readings = fetched known (bundles (merge n (λ j. (reading readings j).part)))

abbrev pub after_confirming : ℕ → Option (List ℕ) → ℕ → List ShardVersion → ℕ → Phase
after_confirming n known round readings k = cond (k == n) (Done (Ok (snapshot_reply n known readings))) (Confirming round readings k)

-- a round that met another revision: all readings are thrown away, and the last round ends the operation
abbrev pub after_disturbance : ℕ → ℕ → ℕ → ℕ → ℕ → Phase
after_disturbance rounds round k first second = cond (round == rounds) (Done (Err (Moved k first second))) (Collecting (round + 1) [])

-- the revision of shard k is compared with the one that was read
abbrev pub confirm : ℕ → ℕ → Option (List ℕ) → ℕ → List ShardVersion → ℕ → ℕ → Phase
confirm n rounds known round readings k now =
    cond ((reading readings k).revision == now) (after_confirming n known round readings (k + 1)) (after_disturbance rounds round k (reading readings k).revision now)

-- after it was told what it wanted; anything else changes nothing
abbrev pub give : ℕ → ℕ → Option (List ℕ) → Phase → Observation → Phase
give n rounds known (Waiting i) (Replied reply) = Done reply
give n rounds known (Collecting round readings) (Seen v) = after_reading n round (readings ++ v ∷ [])
give n rounds known (Confirming round readings k) (Revision now) = confirm n rounds known round readings k now
give n rounds known phase told = phase

abbrev pub is_idle : Phase → Bool
is_idle Idle = true
is_idle phase = false

-- whether it has begun and is not done
abbrev pub is_open : Phase → Bool
is_open Idle = false
is_open (Done reply) = false
is_open phase = true

abbrev pub is_done : Phase → Bool
is_done (Done reply) = true
is_done phase = false

-- whether it has changed its shard
abbrev pub wrote_shard : Phase → Bool
wrote_shard (Done (Ok reply)) = is_change reply
wrote_shard phase = false

-- whether it has its linearization point: an operation on a name from its step on, a fetch-all from the last reading of a round on, unless
-- that round is thrown away
abbrev pub has_point : Phase → Bool
has_point (Confirming round readings k) = true
has_point (Done (Ok reply)) = true
has_point phase = false
