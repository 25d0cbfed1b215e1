-- The invariant of a run: what each caller is at, and what is known of each operation.
use Rattle.std.proofs.Common.{◌≡◌, ◌≢◌, ℕ, suc, ◌<◌, ◌≤◌, Bool, true, false, cond, Option, Some, None, Result, arith, refl, sym, ap, subst, ◌∙◌, ⊎_elim}
use Rattle.map_core.specs.declared.op.Op.{Op}
use Rattle.map_core.specs.declared.reply.AskError.{AskError}
use Rattle.map_core.specs.declared.reply.Reply.{Reply}
use Rattle.map_core.specs.PlainMap.{shard_of}
use Rattle.step_core.specs.World.{with_at, Turn}
use Rattle.step_core.specs.Shard.{ShardVersion}
use Rattle.step_core.specs.Phase.{Phase, Idle, Done, wrote_shard, start_phase, start_phase_at, is_idle, has_point}
use Rattle.step_core.specs.declared.trace.OpRecord.{OpRecord}
use Rattle.step_core.specs.Run.{Run}
use Rattle.step_core.specs.Private.Driver.{with_wrote, with_end}
use Rattle.step_core.proofs.Acts.{begin, pass, finish}
use Rattle.step_core.proofs.Points.{by_number, cases_number, with_at_same, with_at_other, with_at_keep}
use Rattle.step_core.proofs.Claims.{IsPhaseOf}
use Rattle.step_core.proofs.Moves.{Move}
use Rattle.step_core.proofs.Core.{Core, Keeps, stays, with_at_keeps, core_on, core_pass}

-- the phase of an operation: a finished one is done
abbrev pub phase_by : Option (Result Reply AskError) → Phase → Phase
phase_by (Some reply) phase = Done reply
phase_by None phase = phase

abbrev pub phase_of : (ℕ → Phase) → OpRecord → Phase
phase_of phases r = phase_by r.reply (phases r.caller)

abbrev pub states : Run → ℕ → Phase
states run q = phase_of run.world.phases (run.records q)

-- an operation that is not finished is its caller's current one
pub record IsCurrent (run : Run) (q : ℕ) : Type 0 where
  pub number : run.current (run.records q).caller ≡ q
  pub busy : is_idle (run.world.phases (run.records q).caller) ≡ false

-- the record is that of the caller's operation, which is not finished
pub record IsOpen (c : ℕ) (asked : Op) (r : OpRecord) : Type 0 where
  pub caller : r.caller ≡ c
  pub op : asked ≡ r.op
  pub no_reply : r.reply ≡ None
  pub no_last : r.last ≡ None

-- a caller that is not idle has a current operation, which is not finished
pub record IsBusy (run : Run) (c : ℕ) : Type 0 where
  pub known : run.current c < run.count
  pub now : IsOpen c (run.world.ops c) (run.records (run.current c))

pub record Inv (n limit : ℕ) (run : Run) : Type 0 where
  pub core : Core n limit run.count run.world.shards run.records (states run) run.points
  pub open_one : (q : ℕ) → q < run.count → (run.records q).reply ≡ None → IsCurrent run q
  pub busy : (c : ℕ) → is_idle (run.world.phases c) ≡ false → IsBusy run c
  pub wrote : (q : ℕ) → q < run.count → (run.records q).wrote ≡ wrote_shard (states run q)

same_where_open : (reply : Option (Result Reply AskError)) (a b : Phase) → (reply ≡ None → a ≡ b) → phase_by reply a ≡ phase_by reply b
same_where_open (Some reply) a b h = refl
same_where_open None a b h = h refl

not_idle : (n : ℕ) (s : ℕ → ShardVersion) (op : Op) (phase : Phase) → IsPhaseOf n s op phase → is_idle phase ≡ false
not_idle n s op phase h = grind arith

not_both : (b : Bool) → b ≡ true → b ≡ false → ⊥
not_both b t f = cc

-- ---- an operation goes on
module _ (n limit : ℕ) (run : Run) (inv : Inv n limit run) (c : ℕ) (busy_now : is_idle (run.world.phases c) ≡ false) where
  b : IsBusy run c
  b = inv.busy c busy_now

  abbrev own : OpRecord
  own = run.records (run.current c)

  -- the phase of the caller's operation is the caller's
  pub own_phase : states run (run.current c) ≡ run.world.phases c
  own_phase = ap (λ x. phase_by x (run.world.phases own.caller)) b.now.no_reply ∙ ap run.world.phases b.now.caller

  pub other_caller : (q : ℕ) → q < run.count → q ≢ run.current c → (run.records q).reply ≡ None → (run.records q).caller ≢ c
  other_caller q k ne none is = ne (sym (inv.open_one q k none).number ∙ ap run.current is)

  module _ (late : limit ≤ run.events) (t : Turn) (move : Move n run.world.shards own.op (run.world.phases c) t) where
    pub states_after : (q : ℕ) → q < run.count → states (pass run c t) q ≡ with_at (states run) (run.current c) t.phase q
    states_after q k =
        by_number (λ v. phase_of (with_at run.world.phases c t.phase) (cond v (with_wrote own (wrote_shard t.phase)) (run.records q)) ≡ cond v t.phase (states run q)) q (run.current c)
        (λ _. ap (λ x. phase_by x (with_at run.world.phases c t.phase own.caller)) b.now.no_reply ∙ with_at_same run.world.phases c t.phase own.caller b.now.caller)
        (λ ne. same_where_open (run.records q).reply _ _ (λ none. with_at_other run.world.phases c t.phase (run.records q).caller (other_caller q k ne none)))

    keep : {Y : Type 0} → (f : OpRecord → Y) → f (with_wrote own (wrote_shard t.phase)) ≡ f own → (q : ℕ) → f ((pass run c t).records q) ≡ f (run.records q)
    keep f same q = with_at_keep f run.records (run.current c) (with_wrote own (wrote_shard t.phase)) same q

    phase_after : (d : ℕ) → is_idle ((pass run c t).world.phases d) ≡ is_idle (run.world.phases d)
    phase_after d =
        ⊎_elim (λ (is : d ≡ c). ap is_idle (with_at_same run.world.phases c t.phase d is) ∙ not_idle n t.shards own.op t.phase move.ok ∙ sym busy_now ∙ ap (λ x. is_idle (run.world.phases x)) (sym is))
        (λ (ne : d ≢ c). ap is_idle (with_at_other run.world.phases c t.phase d ne)) (cases_number d c)

    wrote_after : (q : ℕ) → q < run.count → ((pass run c t).records q).wrote ≡ wrote_shard (states (pass run c t) q)
    wrote_after q k =
        by_number (λ v. (let x : OpRecord = cond v (with_wrote own (wrote_shard t.phase)) (run.records q) in x).wrote ≡ wrote_shard (cond v t.phase (states run q))) q (run.current c) (λ _. refl) (λ _. inv.wrote q k)
        ∙ sym (ap wrote_shard (states_after q k))

    pub inv_pass : Inv n (suc run.events) (pass run c t)
    inv_pass =
        record {
          core = core_pass n limit run.count run.world.shards run.records (states run) run.points inv.core (run.current c) run.events b.known late t (run.world.phases c) own_phase move (pass run c t).records
              (with_at_keeps limit run.records (run.current c) (with_wrote own (wrote_shard t.phase)) (record { op = refl; first = refl; last = λ event l h. h })) (keep (λ x. x.last) refl (run.current c) ∙ b.now.no_last)
              (states (pass run c t)) (states_after (run.current c) b.known ∙ with_at_same (states run) (run.current c) t.phase (run.current c) refl)
              (λ q k ne. states_after q k ∙ with_at_other (states run) (run.current c) t.phase q ne);
          open_one = λ q k none. let one = inv.open_one q k (sym (keep (λ x. x.reply) refl q) ∙ none) in
              record { number = ap run.current (keep (λ x. x.caller) refl q) ∙ one.number; busy = ap (λ x. is_idle ((pass run c t).world.phases x)) (keep (λ x. x.caller) refl q) ∙ phase_after (run.records q).caller ∙ one.busy };
          busy = λ d h. let one = inv.busy d (sym (phase_after d) ∙ h) in record { known = one.known; now = with_at_open d (run.current d) one.now };
          wrote = wrote_after;
        }
      where
        with_at_open : (d q : ℕ) → IsOpen d (run.world.ops d) (run.records q) → IsOpen d (run.world.ops d) ((pass run c t).records q)
        with_at_open d q h = record { caller = keep (λ x. x.caller) refl q ∙ h.caller; op = h.op ∙ sym (keep (λ x. x.op) refl q); no_reply = keep (λ x. x.reply) refl q ∙ h.no_reply; no_last = keep (λ x. x.last) refl q ∙ h.no_last }

  -- ---- the operation ends
  module _ (late : limit ≤ suc run.events) (reply : Result Reply AskError) (is_done_now : run.world.phases c ≡ Done reply) where
    abbrev ended : OpRecord
    ended = with_end own run.events reply

    pub states_ended : (q : ℕ) → q < run.count → states (finish run c reply) q ≡ states run q
    states_ended q k =
        by_number (λ v. phase_of (with_at run.world.phases c Idle) (cond v ended (run.records q)) ≡ states run q) q (run.current c)
        (λ is. sym is_done_now ∙ sym own_phase ∙ ap (states run) (sym is))
        (λ ne. same_where_open (run.records q).reply _ _ (λ none. with_at_other run.world.phases c Idle (run.records q).caller (other_caller q k ne none)))

    other_record : (q : ℕ) → q ≢ run.current c → (finish run c reply).records q ≡ run.records q
    other_record q ne = with_at_other run.records (run.current c) ended q ne

    open_ended : (q : ℕ) → q < run.count → ((finish run c reply).records q).reply ≡ None → IsCurrent (finish run c reply) q
    open_ended q k none =
        let ne : q ≢ run.current c = (λ is. let e : Some reply ≡ None = sym (ap (λ x. x.reply) (with_at_same run.records (run.current c) ended q is)) ∙ none in cc) in
        let same = other_record q ne in
        let none_before : (run.records q).reply ≡ None = sym (ap (λ x. x.reply) same) ∙ none in
        let one = inv.open_one q k none_before in
        record {
          number = ap (λ x. run.current x.caller) same ∙ one.number;
          busy = ap (λ x. is_idle (with_at run.world.phases c Idle x.caller)) same ∙ ap is_idle (with_at_other run.world.phases c Idle (run.records q).caller (other_caller q k ne none_before)) ∙ one.busy;
        }

    busy_ended : (d : ℕ) → is_idle ((finish run c reply).world.phases d) ≡ false → IsBusy (finish run c reply) d
    busy_ended d h =
        ⊎_elim (λ (is : d ≡ c). absurd (not_both _ (ap is_idle (with_at_same run.world.phases c Idle d is)) h))
        (λ (ne : d ≢ c).
        let one = inv.busy d (ap is_idle (sym (with_at_other run.world.phases c Idle d ne)) ∙ h) in
        let apart : run.current d ≢ run.current c = (λ is. ne (sym one.now.caller ∙ ap (λ x. (run.records x).caller) is ∙ b.now.caller)) in
        record { known = one.known; now = subst (IsOpen d (run.world.ops d)) (sym (other_record (run.current d) apart)) one.now }) (cases_number d c)

    pub inv_finish : Inv n limit (finish run c reply)
    inv_finish =
        record {
          core = core_on n limit run.count run.world.shards run.records (states run) run.points inv.core limit run.count (finish run c reply).records (states (finish run c reply)) (omega arith) (omega arith)
              (λ q k. with_at_keeps limit run.records (run.current c) ended (record { op = refl; first = refl; last = λ event l h. omega (arith, l, late) }) q) states_ended (λ q k new. absurd (omega (arith, k, new)));
          open_one = open_ended;
          busy = busy_ended;
          wrote = λ q k. with_at_keep (λ x. x.wrote) run.records (run.current c) ended refl q ∙ inv.wrote q k ∙ sym (ap wrote_shard (states_ended q k));
        }

-- ---- an operation begins
begun_phase : (n : ℕ) (s : ℕ → ShardVersion) (op : Op) (at : Option ℕ) → 0 < n → shard_of n op ≡ at → IsPhaseOf n s op (start_phase_at at)
begun_phase n s op (Some i) h is = is
begun_phase n s op None h is = (is, h, λ j l. absurd (omega (arith, l)))

begun_point : (at : Option ℕ) → has_point (start_phase_at at) ≡ false
begun_point at = grind arith

begun_written : (at : Option ℕ) → false ≡ wrote_shard (start_phase_at at)
begun_written at = grind arith

module _ (n limit : ℕ) (some : 0 < n) (run : Run) (inv : Inv n limit run) (late : limit ≤ run.events) (c : ℕ) (op : Op) (idle_now : is_idle (run.world.phases c) ≡ true) where
  abbrev new : OpRecord
  new = record { caller = c; op = op; first = run.events; last = None; reply = None; wrote = false }

  abbrev next : Run
  next = begin n run c op

  pub idle_caller : (q : ℕ) → q < run.count → (run.records q).reply ≡ None → (run.records q).caller ≢ c
  idle_caller q k none is = not_both _ (ap (λ x. is_idle (run.world.phases x)) is ∙ idle_now) (inv.open_one q k none).busy

  -- the operation is the new one, or one of before
  either : (q : ℕ) (P : Type 0) → q < suc run.count → (q ≡ run.count → next.records q ≡ new → P) → (q < run.count → next.records q ≡ run.records q → P) → P
  either q P k last before =
      ⊎_elim (λ (is : q ≡ run.count). last is (with_at_same run.records run.count new q is))
      (λ (ne : q ≢ run.count). before (omega (arith, k, ne)) (with_at_other run.records run.count new q ne)) (cases_number q run.count)

  begun_ok : IsPhaseOf n run.world.shards op (start_phase n op)
  begun_ok = begun_phase n run.world.shards op (shard_of n op) some refl

  other_phase : (q : ℕ) → q < run.count → states next q ≡ states run q
  other_phase q k =
      ap (phase_of next.world.phases) (with_at_other run.records run.count new q (λ is. omega (arith, k, is)))
      ∙ same_where_open (run.records q).reply _ _ (λ none. with_at_other run.world.phases c (start_phase n op) (run.records q).caller (idle_caller q k none))

  new_phase : (q : ℕ) → next.records q ≡ new → states next q ≡ start_phase n op
  new_phase q same = ap (phase_of next.world.phases) same ∙ with_at_same run.world.phases c (start_phase n op) c refl

  pub states_begun : (q : ℕ) → q < suc run.count → states next q ≡ with_at (states run) run.count (start_phase n op) q
  states_begun q k =
      either q _ k (λ is same. new_phase q same ∙ sym (with_at_same (states run) run.count (start_phase n op) q is))
      (λ below _. other_phase q below ∙ sym (with_at_other (states run) run.count (start_phase n op) q (λ is. omega (arith, below, is))))

  open_begun : (q : ℕ) → q < suc run.count → (next.records q).reply ≡ None → IsCurrent next q
  open_begun q k none =
      either q (IsCurrent next q) k
      (λ is same. record {
        number = ap (λ x. next.current x.caller) same ∙ with_at_same run.current c run.count c refl ∙ sym is;
        busy = ap (λ x. is_idle (next.world.phases x.caller)) same ∙ ap is_idle (with_at_same run.world.phases c (start_phase n op) c refl) ∙ not_idle n run.world.shards op (start_phase n op) begun_ok;
      })
      (λ below same.
      let none_before : (run.records q).reply ≡ None = sym (ap (λ x. x.reply) same) ∙ none in
      let one = inv.open_one q below none_before in
      let other = idle_caller q below none_before in
      record {
        number = ap (λ x. next.current x.caller) same ∙ with_at_other run.current c run.count (run.records q).caller other ∙ one.number;
        busy = ap (λ x. is_idle (next.world.phases x.caller)) same ∙ ap is_idle (with_at_other run.world.phases c (start_phase n op) (run.records q).caller other) ∙ one.busy;
      })

  busy_begun : (d : ℕ) → is_idle (next.world.phases d) ≡ false → IsBusy next d
  busy_begun d h =
      ⊎_elim (λ (is : d ≡ c).
      let now : next.current d ≡ run.count = with_at_same run.current c run.count d is in
      record {
        known = omega (arith, now);
        now = subst (IsOpen d (next.world.ops d)) (sym (with_at_same run.records run.count new (next.current d) now)) (record { caller = sym is; op = with_at_same run.world.ops c op d is; no_reply = refl; no_last = refl });
      })
      (λ (ne : d ≢ c).
      let one = inv.busy d (ap is_idle (sym (with_at_other run.world.phases c (start_phase n op) d ne)) ∙ h) in
      let now : next.current d ≡ run.current d = with_at_other run.current c run.count d ne in
      let same : next.records (next.current d) ≡ run.records (run.current d) = ap next.records now ∙ with_at_other run.records run.count new (run.current d) (λ is. omega (arith, one.known, is)) in
      record { known = omega (arith, now, one.known); now = subst (IsOpen d (next.world.ops d)) (sym same) (subst (λ (x : Op). IsOpen d x (run.records (run.current d))) (sym (with_at_other run.world.ops c op d ne)) one.now) })
      (cases_number d c)

  pub inv_begin : Inv n (suc run.events) next
  inv_begin =
      record {
        core = core_on n limit run.count run.world.shards run.records (states run) run.points inv.core (suc run.events) (suc run.count) next.records (states next) (omega (arith, late)) (omega arith)
            (λ q k. subst (Keeps limit (run.records q)) (sym (with_at_other run.records run.count new q (λ is. omega (arith, k, is)))) (stays limit (run.records q))) other_phase
            (λ q k l. let is : q ≡ run.count = omega (arith, k, l) in let same = with_at_same run.records run.count new q is in let phase = new_phase q same in
            (rw (ap (λ x. x.op) same, phase) begun_ok, rw (ap (λ x. x.first) same) (omega arith), ap has_point phase ∙ begun_point (shard_of n op)));
        open_one = open_begun;
        busy = busy_begun;
        wrote = λ q k. either q ((next.records q).wrote ≡ wrote_shard (states next q)) k (λ is same. ap (λ x. x.wrote) same ∙ begun_written (shard_of n op) ∙ sym (ap wrote_shard (new_phase q same)))
            (λ below same. ap (λ x. x.wrote) same ∙ inv.wrote q below ∙ sym (ap wrote_shard (other_phase q below)));
      }
