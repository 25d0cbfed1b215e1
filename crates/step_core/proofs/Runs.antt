-- The invariant holds of every run.
use Rattle.std.proofs.Common.{◌≡◌, ℕ, suc, ◌+◌, ◌<◌, ◌≤◌, ◌&&◌, nat_lt, Bool, true, false, cond, List, [], ◌∷◌, length, Err, arith, refl, sym, ap, subst}
use Rattle.std.proofs.lemmas.Bool.Decides.{nat_tests}
use Rattle.map_core.specs.declared.op.Op.{Op}
use Rattle.map_core.specs.declared.reply.AskError.{AskError}
use Rattle.step_core.specs.World.{Turn, to_phase, turn, refusal}
use Rattle.step_core.specs.Phase.{Phase, Done, is_open, is_idle, has_point}
use Rattle.step_core.specs.declared.event.Event.{Event}
use Rattle.step_core.specs.Run.{Run, act, tick, fresh_run, run_from, run_of}
use Rattle.step_core.proofs.Acts.{pass, finish, give_up, turn_of, by_event}
use Rattle.map_core.proofs.Maps.{part-empty}
use Rattle.step_core.proofs.Claims.{IsPhaseOf}
use Rattle.step_core.proofs.Moves.{Move, turn_moves, give_up_moves}
use Rattle.step_core.proofs.Core.{core_on, stays}
use Rattle.step_core.proofs.Book.{Inv, states, own_phase, inv_pass, inv_finish, inv_begin}
use Rattle.step_core.proofs.Points.{with_at_same}

inv_late : (n limit limit' : ℕ) (run : Run) → limit ≤ limit' → Inv n limit run → Inv n limit' run
inv_late n limit limit' run late inv =
    record {
      core = core_on n limit run.count run.world.shards run.records (states run) run.points inv.core limit' run.count run.records (states run) late (omega arith)
          (λ q k. stays limit (run.records q)) (λ q k. refl) (λ q k l. absurd (omega (arith, k, l)));
      open_one = inv.open_one;
      busy = inv.busy;
      wrote = inv.wrote;
    }

inv_tick : (n limit : ℕ) (run : Run) → Inv n limit run → Inv n limit (tick run)
inv_tick n limit run inv =
    record {
      core = inv.core;
      open_one = λ q k none. let one = inv.open_one q k none in record { number = one.number; busy = one.busy };
      busy = λ c h. let one = inv.busy c h in record { known = one.known; now = one.now };
      wrote = inv.wrote;
    }

pub open_busy : (phase : Phase) → is_open phase ≡ true → is_idle phase ≡ false
open_busy phase h = grind arith

module _ (n rounds : ℕ) (some : 0 < n) (run : Run) (inv : Inv n run.events run) (c : ℕ) where
  -- what is known of the caller's operation
  pub phase_here : is_idle (run.world.phases c) ≡ false → IsPhaseOf n run.world.shards (run.records (run.current c)).op (run.world.phases c)
  phase_here h = subst (IsPhaseOf n run.world.shards (run.records (run.current c)).op) (own_phase n run.events run inv c h) (inv.core.ok (run.current c) (inv.busy c h).known)

  pub step_moves : is_open (run.world.phases c) ≡ true → Move n run.world.shards (run.records (run.current c)).op (run.world.phases c) (turn_of n rounds run c)
  step_moves opened =
      let h = open_busy (run.world.phases c) opened in
      subst (λ (x : Op). Move n run.world.shards (run.records (run.current c)).op (run.world.phases c) (turn n rounds run.world.shards x (run.world.phases c))) (sym (inv.busy c h).now.op)
      (turn_moves n rounds run.world.shards (run.records (run.current c)).op (run.world.phases c) some opened (phase_here h))

  inv_give_up : (why : AskError) → is_open (run.world.phases c) ≡ true → Inv n (suc run.events) (give_up run c why)
  inv_give_up why opened =
      let h = open_busy (run.world.phases c) opened in
      let t : Turn = to_phase run.world (Done (Err why)) in
      let passed = inv_pass n run.events run inv c h (omega arith) t (give_up_moves n run.world.shards (run.records (run.current c)).op why (run.world.phases c) opened (phase_here h)) in
      let now : (pass run c t).world.phases c ≡ Done (Err why) = with_at_same run.world.phases c (Done (Err why)) c refl in
      inv_finish n (suc run.events) (pass run c t) passed c (ap is_idle now) (omega arith) (Err why) now

-- each event keeps the invariant
pub inv_next : (n rounds : ℕ) → 0 < n → (run : Run) → Inv n run.events run → (event : Event) → Inv n (tick (act n rounds run event)).events (tick (act n rounds run event))
inv_next n rounds some run inv =
    by_event (λ x _. Inv n (suc x.events) (tick x)) n rounds run
    (λ _. inv_tick n (suc run.events) run (inv_late n run.events (suc run.events) run (omega arith) inv))
    (λ c op idle. inv_tick n (suc run.events) _ (inv_begin n run.events some run inv (omega arith) c op idle))
    (λ c opened. inv_tick n (suc run.events) _ (inv_pass n run.events run inv c (open_busy (run.world.phases c) opened) (omega arith) (turn_of n rounds run c) (step_moves n rounds some run inv c opened)))
    (λ c reason opened. inv_tick n (suc run.events) _ (inv_give_up n rounds some run inv c (refusal reason) opened))
    (λ c reply is. inv_tick n (suc run.events) _ (inv_late n run.events (suc run.events) (finish run c reply) (omega arith) (inv_finish n run.events run inv c (ap is_idle is) (omega arith) reply is)))

inv_from : (n rounds : ℕ) → 0 < n → (events : List Event) (run : Run) → Inv n run.events run → Inv n (run_from n rounds run events).events (run_from n rounds run events)
inv_from n rounds some [] run inv = inv
inv_from n rounds some (event ∷ events) run inv = inv_from n rounds some events (tick (act n rounds run event)) (inv_next n rounds some run inv event)

act_events : (n rounds : ℕ) (run : Run) (event : Event) → (act n rounds run event).events ≡ run.events
act_events n rounds run = by_event (λ x _. x.events ≡ run.events) n rounds run (λ _. refl) (λ c op _. refl) (λ c _. refl) (λ c reason _. refl) (λ c reply _. refl)

events_from : (n rounds : ℕ) (events : List Event) (run : Run) → (run_from n rounds run events).events ≡ run.events + length events
events_from n rounds [] run = omega arith
events_from n rounds (event ∷ events) run = omega (arith, events_from n rounds events (tick (act n rounds run event)), act_events n rounds run event)

pub events_of : (n rounds : ℕ) (events : List Event) → (run_of n rounds events).events ≡ length events
events_of n rounds events = omega (arith, events_from n rounds events fresh_run)

none_begun : (h : Bool) (q : ℕ) → ◌≡◌ {A = ℕ} 0 (cond (nat_lt q 0 && h) 1 0)
none_begun h q = grind (arith, nat_tests)

pub inv_fresh : (n : ℕ) → Inv n 0 fresh_run
inv_fresh n =
    record {
      core = record {
        ok = λ q k. absurd (omega (arith, k));
        started = λ q k. absurd (omega (arith, k));
        once = λ q. none_begun (has_point (states fresh_run q)) q;
        fits = record { in_time = omega arith; shown = λ i. part-empty n i };
      };
      open_one = λ q k none. absurd (omega (arith, k));
      busy = λ c h. absurd (cc);
      wrote = λ q k. absurd (omega (arith, k));
    }

-- of every list of events
pub inv_run : (n rounds : ℕ) → 0 < n → (events : List Event) → Inv n (run_of n rounds events).events (run_of n rounds events)
inv_run n rounds some events = inv_from n rounds some events fresh_run (inv_fresh n)
