-- What an event does to a run, to its world and its notes together.
use Rattle.std.proofs.Common.{◌≡◌, ℕ, ◌==◌, Bool, true, false, cond, Result, Err, arith, refl, sym, subst}
use Rattle.map_core.specs.declared.op.Op.{Op}
use Rattle.map_core.specs.declared.reply.AskError.{AskError}
use Rattle.map_core.specs.declared.reply.Reply.{Reply}
use Rattle.step_core.specs.declared.event.Event.{Event}
use Rattle.step_core.specs.declared.event.Event.TheVariants.{Begin, Step, Quit, End}
use Rattle.step_core.specs.World.{Turn, turn, refusal, after_turn, with_operation, to_phase}
use Rattle.step_core.specs.Phase.{Phase, Idle, Waiting, Collecting, Confirming, Done, start_phase, is_idle, is_open, is_done}
use Rattle.step_core.specs.Run.{Run, in_world}
use Rattle.step_core.specs.Run as notes
use Rattle.step_core.specs.declared.event.Why.{Why}
use Rattle.step_core.proofs.Points.{by_test}

abbrev pub begin : ℕ → Run → ℕ → Op → Run
begin n run c op = in_world (with_operation run.world c op (start_phase n op)) (notes.begin run c op)

abbrev pub pass : Run → ℕ → Turn → Run
pass run c t = in_world (after_turn run.world c t) (notes.pass run c t.phase)

abbrev pub finish : Run → ℕ → Result Reply AskError → Run
finish run c reply = in_world (after_turn run.world c (to_phase run.world Idle)) (notes.finish run c reply)

abbrev pub give_up : Run → ℕ → AskError → Run
give_up run c why = finish (pass run c (to_phase run.world (Done (Err why)))) c (Err why)

abbrev pub end_at : Run → ℕ → Phase → Run
end_at run c Idle = run
end_at run c (Waiting i) = run
end_at run c (Collecting round readings) = run
end_at run c (Confirming round readings k) = run
end_at run c (Done reply) = finish run c reply

-- the step of the caller in the run's world
abbrev pub turn_of : ℕ → ℕ → Run → ℕ → Turn
turn_of n rounds run c = turn n rounds run.world.shards (run.world.ops c) (run.world.phases c)

abbrev pub acted : ℕ → ℕ → Run → Event → Run
acted n rounds run (Begin c op) = cond (is_idle (run.world.phases c)) (begin n run c op) run
acted n rounds run (Step c) = cond (is_open (run.world.phases c)) (pass run c (turn_of n rounds run c)) run
acted n rounds run (Quit c reason) = cond (is_open (run.world.phases c)) (give_up run c (refusal reason)) run
acted n rounds run (End c) = end_at run c (run.world.phases c)

pub covered : {X : Type 0} → (b : Bool) (x y z : X) → cond b x (cond b y z) ≡ cond b x z
covered true x y z = refl
covered false x y z = refl

-- a world that gives up has its phases at once
given_up : (run : Run) (c : ℕ) (why : AskError) → in_world (after_turn run.world c (to_phase run.world Idle)) (notes.give_up run c why) ≡ give_up run c why
given_up run c why = λ i. in_world
    (record { shards = run.world.shards; ops = run.world.ops; phases = λ q. sym (covered (q == c) Idle (Done (Err why)) (run.world.phases q)) i })
    (notes.give_up run c why)

ended : (run : Run) (c : ℕ) (phase : Phase) → in_world (cond (is_done phase) (after_turn run.world c (to_phase run.world Idle)) run.world) (notes.end_at run c phase) ≡ end_at run c phase
ended run c phase = grind arith

pub act_is : (n rounds : ℕ) (run : Run) (event : Event) → notes.act n rounds run event ≡ acted n rounds run event
act_is n rounds run (Begin c op) =
    by_test (λ b. in_world (cond b (with_operation run.world c op (start_phase n op)) run.world) (cond b (notes.begin run c op) run) ≡ cond b (begin n run c op) run) (is_idle (run.world.phases c)) (λ _. refl) (λ _. refl)
act_is n rounds run (Step c) =
    let t : Turn = turn_of n rounds run c in
    by_test (λ b. in_world (cond b (after_turn run.world c t) run.world) (cond b (notes.pass run c t.phase) run) ≡ cond b (pass run c t) run) (is_open (run.world.phases c)) (λ _. refl) (λ _. refl)
act_is n rounds run (Quit c reason) =
    by_test (λ b. in_world (cond b (after_turn run.world c (to_phase run.world Idle)) run.world) (cond b (notes.give_up run c (refusal reason)) run) ≡ cond b (give_up run c (refusal reason)) run)
    (is_open (run.world.phases c)) (λ _. given_up run c (refusal reason)) (λ _. refl)
act_is n rounds run (End c) = ended run c (run.world.phases c)

-- P of what an event does: nothing, or what the caller's phase lets it do
pub by_event : (P : Run → Event → Type 0) (n rounds : ℕ) (run : Run) → ((event : Event) → P run event)
    → ((c : ℕ) (op : Op) → is_idle (run.world.phases c) ≡ true → P (begin n run c op) (Begin c op))
    → ((c : ℕ) → is_open (run.world.phases c) ≡ true → P (pass run c (turn_of n rounds run c)) (Step c))
    → ((c : ℕ) (reason : Why) → is_open (run.world.phases c) ≡ true → P (give_up run c (refusal reason)) (Quit c reason))
    → ((c : ℕ) (reply : Result Reply AskError) → run.world.phases c ≡ Done reply → P (finish run c reply) (End c))
    → (event : Event) → P (notes.act n rounds run event) event
by_event P n rounds run still begins steps quits ends event = subst (λ (x : Run). P x event) (sym (act_is n rounds run event)) (by event)
  where
    end : (c : ℕ) (phase : Phase) → ((reply : Result Reply AskError) → phase ≡ Done reply → P (finish run c reply) (End c)) → P (end_at run c phase) (End c)
    end c Idle h = still (End c)
    end c (Waiting i) h = still (End c)
    end c (Collecting round readings) h = still (End c)
    end c (Confirming round readings k) h = still (End c)
    end c (Done reply) h = h reply refl

    by : (event : Event) → P (acted n rounds run event) event
    by (Begin c op) = by_test (λ b. P (cond b (begin n run c op) run) (Begin c op)) (is_idle (run.world.phases c)) (begins c op) (λ _. still (Begin c op))
    by (Step c) = by_test (λ b. P (cond b (pass run c (turn_of n rounds run c)) run) (Step c)) (is_open (run.world.phases c)) (steps c) (λ _. still (Step c))
    by (Quit c reason) = by_test (λ b. P (cond b (give_up run c (refusal reason)) run) (Quit c reason)) (is_open (run.world.phases c)) (quits c reason) (λ _. still (Quit c reason))
    by (End c) = end c (run.world.phases c) (ends c)
