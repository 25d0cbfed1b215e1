-- How far one operation is, by the task that drives it.
use Rattle.std.specs.Prelude.{ℕ, ◌+◌, ◌<◌, ◌==◌, ◌&&◌, Bool, false, Err}
use Rattle.std.specs.Arc.{arc_value}
use Rattle.map_core.specs.declared.reply.AskError.TheVariants.{Memory}
use Rattle.step_core.specs.Shard.{reading}
use Rattle.step_core.specs.Phase.{Phase, Waiting, Collecting, Confirming, Done, Observation, Replied, Seen, Revision}
use Rattle.step_core.specs.declared.task.State.{State}
use Rattle.step_core.specs.declared.task.State.TheVariants as state
use Rattle.step_core.specs.declared.task.Want.{Want}
use Rattle.step_core.specs.declared.task.Want.TheVariants as want
use Rattle.step_core.specs.declared.task.Answer.{Answer}
use Rattle.step_core.specs.declared.task.Answer.TheVariants as answer

-- the phase that the program's state of a task stands for
abbrev pub phase_of : State → Phase
phase_of (state.Waiting shard) = Waiting shard
phase_of (state.Collecting round readings) = Collecting round readings.items
phase_of (state.Confirming round readings k) = Confirming round readings.items k
phase_of (state.Done reply) = Done reply

-- what the program tells a task
abbrev pub observation_of : Answer → Observation
observation_of (answer.Replied reply) = Replied reply
observation_of (answer.Seen revision contents) = Seen (record { revision = revision; part = arc_value contents })
observation_of (answer.Revision revision) = Revision revision

-- whether it is the last confirm, with which the reply is put together
abbrev pub is_last_confirm : ℕ → Phase → Observation → Bool
is_last_confirm n (Confirming round readings k) (Revision now) = ((reading readings k).revision == now) && ((k + 1) == n)
is_last_confirm n phase told = false

-- the shard that it wants is one of n
abbrev pub IsWantOf : ℕ → Want → Type 0
IsWantOf n (want.Do i) = i < n
IsWantOf n (want.Collect i) = i < n
IsWantOf n (want.Confirm i) = i < n
IsWantOf n want.Done = Unit {0}

-- there was no memory
abbrev pub out_of_memory : Phase
out_of_memory = Done (Err Memory)
