-- The run of a list of events is a run of the machine.
use Rattle.std.proofs.Common.{◌≡◌, ℕ, List, [], ◌∷◌, refl}
use Rattle.step_core.specs.declared.event.Event.{Event}
use Rattle.step_core.specs.World.{fresh_world, world_from}
use Rattle.step_core.specs.Run.{Run, act, tick, fresh_run, run_from, run_of}

from_alike : (n rounds : ℕ) (events : List Event) (run : Run) → (run_from n rounds run events).world ≡ world_from n rounds run.world events
from_alike n rounds [] run = refl
from_alike n rounds (event ∷ events) run = from_alike n rounds events (tick (act n rounds run event))

pub runs_machine : (n rounds : ℕ) (events : List Event) → (run_of n rounds events).world ≡ world_from n rounds fresh_world events
runs_machine n rounds events = from_alike n rounds events fresh_run
