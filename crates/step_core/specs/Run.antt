-- A run of the machine over a list of events: the records of its operations, and their order by points.
use Rattle.std.specs.Prelude.{ℕ, suc, ◌==◌, not, Bool, true, false, cond, List, [], ◌∷◌, ◌++◌, map, filter, Some, None, Result, Err}
use Rattle.map_core.specs.declared.op.Op.{Op}
use Rattle.map_core.specs.declared.reply.AskError.{AskError}
use Rattle.map_core.specs.declared.reply.Reply.{Reply}
use Rattle.step_core.specs.declared.event.Event.{Event}
use Rattle.step_core.specs.declared.event.Event.TheVariants.{Begin, Step, Quit, End}
use Rattle.step_core.specs.World.{with_at, World, turn, refusal, fresh_world, next}
use Rattle.step_core.specs.Phase.{Phase, Done, has_point, is_idle, is_open, wrote_shard}
use Rattle.step_core.specs.declared.trace.OpRecord.{OpRecord}
use Rattle.step_core.specs.Records.{no_record, took_effect}

-- a linearization point: the operation's number, what it asks, and the event
pub record Point : Type 0 where
  pub number : ℕ
  pub op : Op
  pub event : ℕ

-- a run so far. The first count records were begun, and current is the last of each caller
pub record Run : Type 0 where
  pub world : World
  pub records : ℕ → OpRecord
  pub count : ℕ
  pub current : ℕ → ℕ
  pub points : List Point
  pub events : ℕ

-- the points without that of one operation
abbrev pub without : ℕ → List Point → List Point
without number points = filter (λ p. not (p.number == number)) points

-- the points after an operation has gone from one phase to another
abbrev pub update_points : Bool → Bool → Point → List Point → List Point
update_points false true p points = points ++ p ∷ []
update_points true false p points = without p.number points
update_points before after p points = points

-- ---- what is noted of an event; the world is left to the machine
-- a caller begins
abbrev pub begin : Run → ℕ → Op → Run
begin run c op =
    let begun : OpRecord = record { caller = c; op = op; first = run.events; last = None; reply = None; wrote = false } in
    record run { records = with_at run.records run.count begun; count = suc run.count; current = with_at run.current c run.count }

-- the caller's operation goes on to this phase
abbrev pub pass : Run → ℕ → Phase → Run
pass run c phase =
    let number = run.current c in
    let old = run.records number in
    let point : Point = record { number = number; op = old.op; event = run.events } in
    record run {
      records = with_at run.records number (record old { wrote = wrote_shard phase });
      points = update_points (has_point (run.world.phases c)) (has_point phase) point run.points;
    }

-- the caller's operation ends
abbrev pub finish : Run → ℕ → Result Reply AskError → Run
finish run c reply =
    let number = run.current c in
    record run { records = with_at run.records number (record (run.records number) { last = Some run.events; reply = Some reply }) }

abbrev pub give_up : Run → ℕ → AskError → Run
give_up run c why = finish (pass run c (Done (Err why))) c (Err why)

abbrev pub end_at : Run → ℕ → Phase → Run
end_at run c (Done reply) = finish run c reply
end_at run c phase = run

-- what is noted of an event; one that does not fit leaves everything
abbrev pub note : ℕ → ℕ → Run → Event → Run
note n rounds run (Begin c op) = cond (is_idle (run.world.phases c)) (begin run c op) run
note n rounds run (Step c) = cond (is_open (run.world.phases c)) (pass run c (turn n rounds run.world.shards (run.world.ops c) (run.world.phases c)).phase) run
note n rounds run (Quit c reason) = cond (is_open (run.world.phases c)) (give_up run c (refusal reason)) run
note n rounds run (End c) = end_at run c (run.world.phases c)

-- the run, in this world
abbrev pub in_world : World → Run → Run
in_world world run = record run { world = world }

-- the machine goes on to its next world, and the event is noted
abbrev pub act : ℕ → ℕ → Run → Event → Run
act n rounds run event = in_world (next n rounds run.world event) (note n rounds run event)

-- the event is over
abbrev pub tick : Run → Run
tick run = record run { events = suc run.events }

abbrev pub fresh_run : Run
fresh_run = record { world = fresh_world; records = λ q. no_record; count = 0; current = λ c. 0; points = []; events = 0 }

abbrev pub run_from : ℕ → ℕ → Run → List Event → Run
run_from n rounds run [] = run
run_from n rounds run (event ∷ events) = run_from n rounds (tick (act n rounds run event)) events

-- the run of a list of events
abbrev pub run_of : ℕ → ℕ → List Event → Run
run_of n rounds events = run_from n rounds fresh_run events

abbrev pub numbers : List Point → List ℕ
numbers points = map (λ p. p.number) points

-- the order by points
abbrev pub order_of : Run → List ℕ
order_of run = numbers (filter (λ p. took_effect (run.records p.number)) run.points)
