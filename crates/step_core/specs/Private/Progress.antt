-- How a task stands while it is under way.
use Rattle.std.specs.Prelude.{◌≡◌, ℕ, ◌<◌, ◌≤◌, Bool, true, false, length, vec_capacity, Err}
use Rattle.map_core.specs.declared.reply.AskError.TheVariants.{Memory}
use Rattle.step_core.specs.Phase.{Phase, Waiting, Collecting, Confirming, Done}
use Rattle.step_core.specs.declared.task.State.{State}
use Rattle.step_core.specs.declared.task.State.TheVariants as state

-- its shard, its readings and its round are among those there are
abbrev pub IsInside : ℕ → ℕ → Phase → Type 0
IsInside n rounds (Waiting i) = i < n
IsInside n rounds (Collecting round readings) = (length readings < n) × (round ≤ rounds)
IsInside n rounds (Confirming round readings k) = (length readings ≡ n) × (k < n) × (round ≤ rounds)
IsInside n rounds phase = Unit {0}

-- there is room for all readings
abbrev pub HasRoom : ℕ → State → Type 0
HasRoom n (state.Collecting round readings) = n ≤ vec_capacity readings
HasRoom n (state.Confirming round readings k) = n ≤ vec_capacity readings
HasRoom n state = Unit {0}

-- whether there was no memory
abbrev pub is_out_of_memory : Phase → Bool
is_out_of_memory (Done (Err Memory)) = true
is_out_of_memory phase = false
