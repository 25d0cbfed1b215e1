-- The order by points is legal.
use Rattle.std.proofs.Common.{◌≡◌, ℕ, ◌+◌, ◌<◌, ◌≤◌, ◌&&◌, nat_lt, Bool, true, false, cond, List, [], ◌∷◌, length, Option, Result, Ok, IfSome, arith, sym, ap, subst, ◌∙◌}
use Rattle.std.proofs.lemmas.Bool.Decides.{nat_tests}
use Rattle.std.specs.FinMap as finite
use Rattle.map_core.specs.declared.op.Op.{Op}
use Rattle.map_core.specs.declared.reply.AskError.{AskError}
use Rattle.map_core.specs.declared.reply.Reply.{Reply}
use Rattle.map_core.specs.PlainMap.{PlainMap, ask}
use Rattle.step_core.specs.Shard.{ShardVersion}
use Rattle.step_core.specs.Phase.{Phase, wrote_shard, has_point}
use Rattle.step_core.specs.declared.event.Event.{Event}
use Rattle.step_core.specs.declared.trace.OpRecord.{OpRecord}
use Rattle.step_core.specs.Run.{Point, Run, numbers, run_of, order_of}
use Rattle.step_core.specs.Records.{took_effect_by, took_effect}
use Rattle.step_core.proofs.Legal.{times, Rises, Replies, IsLegal}
use Rattle.std.specs.Prelude.{filter}
use Rattle.step_core.proofs.Claims.{Claim, IsPhaseOf, claim_keeps}
use Rattle.step_core.proofs.Core.{IsPoint, AtEnd}
use Rattle.step_core.proofs.Points.{Along, by_test, numbers-filter, times-filter}
use Rattle.step_core.proofs.Book.{Inv, phase_by, states}
use Rattle.step_core.proofs.Runs.{inv_run, events_of}

written_point : (phase : Phase) → wrote_shard phase ≡ true → has_point phase ≡ true
written_point phase h = grind arith

effective_point : (reply : Option (Result Reply AskError)) (wrote : Bool) (phase : Phase) → wrote ≡ wrote_shard (phase_by reply phase) → took_effect_by reply wrote ≡ true → has_point (phase_by reply phase) ≡ true
effective_point reply wrote phase w h = grind (arith, written_point)

member : (q count : ℕ) (s h : Bool) (x y : ℕ) → x ≡ cond s y 0 → y ≡ cond (nat_lt q count && h) 1 0 → (q < count → s ≡ true → h ≡ true) → x ≡ cond (nat_lt q count && s) 1 0
member q count s h x y e f g = grind (arith, nat_tests)

rises_lower : (events : ℕ) (records : ℕ → OpRecord) (a b : ℕ) (rs : List ℕ) → a ≤ b → Rises events records b rs → Rises events records a rs
rises_lower events records a b [] l h = tt
rises_lower events records a b (r ∷ rs) l h = (h.0, omega (arith, l, h.1), h.2, h.3)

answered : (n : ℕ) (s : ℕ → ShardVersion) (m : PlainMap) (op : Op) (reply : Option (Result Reply AskError)) (phase : Phase) → Claim n s m op (phase_by reply phase) → IfSome reply (λ x. x ≡ Ok (ask m op).reply)
answered n s m op reply phase h = grind arith

unwritten : (n : ℕ) (s : ℕ → ShardVersion) (m : PlainMap) (op : Op) (reply : Option (Result Reply AskError)) (wrote : Bool) (phase : Phase) → wrote ≡ wrote_shard (phase_by reply phase) → took_effect_by reply wrote ≡ false → Claim n s m op (phase_by reply phase) → wrote_shard (phase_by reply phase) ≡ false
unwritten n s m op reply wrote phase w down h = grind arith

module _ (n : ℕ) (run : Run) (inv : Inv n run.events run) where
  abbrev IsPointHere : Point → PlainMap → Type 0
  IsPointHere = IsPoint n run.events run.count run.world.shards run.records (states run)

  abbrev effective : List Point → List ℕ
  effective ps = numbers (filter (λ p. took_effect (run.records p.number)) ps)

  -- an operation that does not stand leaves the map
  leaves : (p : Point) (m : PlainMap) → IsPointHere p m → took_effect (run.records p.number) ≡ false → (ask m p.op).map ≡ m
  leaves p m h down =
      claim_keeps n run.world.shards m p.op (states run p.number)
      (subst (λ (x : Op). IsPhaseOf n run.world.shards x (states run p.number)) h.op_is (inv.core.ok p.number h.known)) h.claim
      (unwritten n run.world.shards m p.op (run.records p.number).reply (run.records p.number).wrote (run.world.phases (run.records p.number).caller) (inv.wrote p.number h.known) down h.claim)

  rises_along : (from : ℕ) (m : PlainMap) (ps : List Point) → Along IsPointHere (AtEnd n run.events run.world.shards) from m ps → Rises run.events run.records from (effective ps)
  rises_along from m [] h = tt
  rises_along from m (p ∷ ps) h =
      let rest = rises_along (p.event + 1) (ask m p.op).map ps h.2 in
      by_test (λ b. Rises run.events run.records from (numbers (cond b (p ∷ filter (λ x. took_effect (run.records x.number)) ps) (filter (λ x. took_effect (run.records x.number)) ps)))) (took_effect (run.records p.number))
      (λ _. (p.event, h.0, h.1.during, rest)) (λ _. rises_lower run.events run.records from (p.event + 1) (effective ps) (omega (arith, h.0)) rest)

  replies_along : (from : ℕ) (m : PlainMap) (ps : List Point) → Along IsPointHere (AtEnd n run.events run.world.shards) from m ps → Replies run.records m (effective ps)
  replies_along from m [] h = tt
  replies_along from m (p ∷ ps) h =
      let rest = replies_along (p.event + 1) (ask m p.op).map ps h.2 in
      by_test (λ b. Replies run.records m (numbers (cond b (p ∷ filter (λ x. took_effect (run.records x.number)) ps) (filter (λ x. took_effect (run.records x.number)) ps)))) (took_effect (run.records p.number))
      (λ _. (
        subst (λ (x : Op). IfSome (run.records p.number).reply (λ reply. reply ≡ Ok (ask m x).reply)) (sym h.1.op_is)
            (answered n run.world.shards m p.op (run.records p.number).reply (run.world.phases (run.records p.number).caller) h.1.claim),
        subst (λ (x : Op). Replies run.records (ask m x).map (effective ps)) (sym h.1.op_is) rest,
      ))
      (λ e. subst (λ (x : PlainMap). Replies run.records x (effective ps)) (leaves p m h.1 e) rest)

  pub legal : IsLegal run.events run.count run.records (order_of run)
  legal =
      record {
        members = λ r. member r run.count (took_effect (run.records r)) (has_point (states run r)) _ (times r (numbers run.points)) (ap (times r) (numbers-filter (λ q. took_effect (run.records q)) run.points) ∙ times-filter (λ q. took_effect (run.records q)) r (numbers run.points)) (inv.core.once r)
            (λ l effective. effective_point (run.records r).reply (run.records r).wrote (run.world.phases (run.records r).caller) (inv.wrote r l) effective);
        rises = rises_along 0 finite.empty run.points inv.core.fits;
        replies = replies_along 0 finite.empty run.points inv.core.fits;
      }

-- For every number of shards and callers and every list of events, the order by points is legal.
pub one_order : (n rounds : ℕ) (events : List Event) → 0 < n → let run = run_of n rounds events in IsLegal (length events) run.count run.records (order_of run)
one_order n rounds events some =
    let run = run_of n rounds events in
    subst (λ (x : ℕ). IsLegal x run.count run.records (order_of run)) (events_of n rounds events) (legal n run (inv_run n rounds some events))
