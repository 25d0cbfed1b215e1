-- The machine: shards, callers, and what one event does.
use Rattle.std.specs.Prelude.{ℕ, ◌==◌, cond, List, [], ◌∷◌}
use Rattle.map_core.specs.declared.op.Op.{Op}
use Rattle.map_core.specs.declared.op.Op.TheVariants.{FetchAll}
use Rattle.map_core.specs.declared.reply.AskError.{AskError}
use Rattle.map_core.specs.declared.reply.AskError.TheVariants.{Memory, Held}
use Rattle.map_core.specs.Op.{known_of}
use Rattle.step_core.specs.declared.event.Event.{Event}
use Rattle.step_core.specs.declared.event.Event.TheVariants.{Begin, Step, Quit, End}
use Rattle.step_core.specs.declared.event.Why.{Why}
use Rattle.step_core.specs.declared.event.Why.TheVariants as why
use Rattle.step_core.specs.declared.task.Want.{Want}
use Rattle.step_core.specs.declared.task.Want.TheVariants as want
use Rattle.step_core.specs.Shard.{ShardVersion, fresh_shard, step_on, of_shard}
use Rattle.step_core.specs.Phase.{Phase, Idle, Replied, Seen, Revision, start_phase, wants, give, is_idle, is_open, is_done}

-- f, with x at k
abbrev pub with_at : {X : Type 0} → (ℕ → X) → ℕ → X → ℕ → X
with_at f k x q = cond (q == k) x (f q)

-- the shards, the operation that each caller began last, and how far it is
pub record World : Type 0 where
  pub shards : ℕ → ShardVersion
  pub ops : ℕ → Op
  pub phases : ℕ → Phase

-- what a step of a caller leaves: the shards, and the caller's phase
pub record Turn : Type 0 where
  pub shards : ℕ → ShardVersion
  pub phase : Phase

-- the operation is told what it wants of the shards
abbrev pub turn_by : ℕ → ℕ → (ℕ → ShardVersion) → Op → Phase → Want → Turn
turn_by n rounds shards op phase (want.Do i) =
    let stepped = step_on (shards i) op in record { shards = with_at shards i stepped.shard; phase = give n rounds (known_of op) phase (Replied (of_shard i stepped.answer)) }
turn_by n rounds shards op phase (want.Collect i) = record { shards = shards; phase = give n rounds (known_of op) phase (Seen (shards i)) }
turn_by n rounds shards op phase (want.Confirm i) = record { shards = shards; phase = give n rounds (known_of op) phase (Revision (shards i).revision) }
turn_by n rounds shards op phase want.Done = record { shards = shards; phase = phase }

-- one step of a caller
abbrev pub turn : ℕ → ℕ → (ℕ → ShardVersion) → Op → Phase → Turn
turn n rounds shards op phase = turn_by n rounds shards op phase (wants phase)

-- why an operation that is given up gets no reply
abbrev pub refusal : Why → AskError
refusal (why.Held shard revision) = Held shard revision
refusal why.Memory = Memory

-- no shard was ever changed, and all callers are idle
abbrev pub fresh_world : World
fresh_world = record { shards = λ i. fresh_shard; ops = λ c. FetchAll; phases = λ c. Idle }

-- the caller has made a step
abbrev pub after_turn : World → ℕ → Turn → World
after_turn w c t = record w { shards = t.shards; phases = with_at w.phases c t.phase }

-- a caller begins
abbrev pub with_operation : World → ℕ → Op → Phase → World
with_operation w c op phase = record w { ops = with_at w.ops c op; phases = with_at w.phases c phase }

abbrev pub to_phase : World → Phase → Turn
to_phase w phase = record { shards = w.shards; phase = phase }

-- what an event does; one that does not fit changes nothing
abbrev pub next : ℕ → ℕ → World → Event → World
next n rounds w (Begin c op) = cond (is_idle (w.phases c)) (with_operation w c op (start_phase n op)) w
next n rounds w (Step c) = cond (is_open (w.phases c)) (after_turn w c (turn n rounds w.shards (w.ops c) (w.phases c))) w
next n rounds w (Quit c reason) = cond (is_open (w.phases c)) (after_turn w c (to_phase w Idle)) w
next n rounds w (End c) = cond (is_done (w.phases c)) (after_turn w c (to_phase w Idle)) w

-- the world after a list of events
abbrev pub world_from : ℕ → ℕ → World → List Event → World
world_from n rounds w [] = w
world_from n rounds w (event ∷ events) = world_from n rounds (next n rounds w event) events
