-- How often an operation was disturbed: the writing steps of other callers between its first and its last event.
use Rattle.std.specs.Prelude.{◌≡◌, ℕ, ◌+◌, ◌<◌, ◌≤◌, ◌==◌, nat_lt, not, ◌&&◌, Bool, false, cond, List, [], ◌∷◌, Some, Err, is_none}
use Rattle.map_core.specs.declared.reply.AskError.TheVariants.{Moved}
use Rattle.step_core.specs.declared.event.Event.{Event}
use Rattle.step_core.specs.declared.event.Event.TheVariants.{Step}
use Rattle.step_core.specs.Phase.{is_open, wrote_shard}
use Rattle.step_core.specs.World.{turn}
use Rattle.step_core.specs.Run.{Run, act, tick, fresh_run, run_of}

-- whether the event is a step by which a caller other than this one changes a shard
abbrev pub is_write_by_other : ℕ → ℕ → Run → Event → ℕ → Bool
is_write_by_other n rounds run (Step c) caller = (is_open (run.world.phases c) && wrote_shard (turn n rounds run.world.shards (run.world.ops c) (run.world.phases c)).phase) && not (c == caller)
is_write_by_other n rounds run event caller = false

-- whether an operation was begun and is not finished
abbrev pub is_running : Run → ℕ → Bool
is_running run q = nat_lt q run.count && is_none (run.records q).reply

-- one more for each operation that the event disturbs
abbrev pub count_disturbed : ℕ → ℕ → Run → Event → (ℕ → ℕ) → ℕ → ℕ
count_disturbed n rounds run event counts q = counts q + cond (is_running run q && is_write_by_other n rounds run event (run.records q).caller) 1 0

abbrev pub disturbances_from : ℕ → ℕ → Run → (ℕ → ℕ) → List Event → ℕ → ℕ
disturbances_from n rounds run counts [] = counts
disturbances_from n rounds run counts (event ∷ events) = disturbances_from n rounds (tick (act n rounds run event)) (count_disturbed n rounds run event counts) events

-- of each operation, by its number
abbrev pub disturbances : ℕ → ℕ → List Event → ℕ → ℕ
disturbances n rounds events = disturbances_from n rounds fresh_run (λ q. 0) events

-- A fetch-all that is refused as moved was disturbed by other callers at least once a round.
abbrev pub MovedWasDisturbed : Type 0
MovedWasDisturbed =
    (n rounds : ℕ) (events : List Event) → 0 < n → (r shard first second : ℕ) → r < (run_of n rounds events).count
    → ((run_of n rounds events).records r).reply ≡ Some (Err (Moved shard first second)) → rounds ≤ disturbances n rounds events r
