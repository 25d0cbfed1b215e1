-- A fetch-all that is refused as moved was disturbed at least once a round.
use Rattle.std.proofs.Common.{is_none, ◌≡◌, ◌≢◌, ℕ, suc, ◌+◌, ◌<◌, ◌≤◌, ◌==◌, not, ◌&&◌, nat_lt, Bool, true, cond, List, [], ◌∷◌, ◌++◌, length, Option, Some, None, Result, Ok, Err, arith, refl, sym, ap, subst, ◌∙◌, ⊎_elim}
use Rattle.std.proofs.lemmas.Bool.Decides.{nat_tests}
use Rattle.map_core.specs.declared.op.Op.{Op}
use Rattle.map_core.specs.declared.reply.AskError.{AskError}
use Rattle.map_core.specs.declared.reply.AskError.TheVariants.{Moved}
use Rattle.map_core.specs.declared.reply.Reply.{Reply}
use Rattle.map_core.specs.PlainMap.{shard_of}
use Rattle.map_core.specs.Op.{known_of}
use Rattle.step_core.specs.World.{with_at, Turn, turn, to_phase, refusal}
use Rattle.step_core.specs.Shard.{ShardVersion, reading, step_on, of_shard}
use Rattle.step_core.specs.Phase.{Phase, Idle, Waiting, Collecting, Confirming, Done, after_reading, after_confirming, snapshot_reply, after_disturbance, confirm, wrote_shard, is_open, start_phase, start_phase_at, is_idle}
use Rattle.step_core.specs.declared.event.Event.{Event}
use Rattle.step_core.specs.declared.event.Event.TheVariants.{Begin, Step, Quit, End}
use Rattle.step_core.specs.declared.event.Why.{Why}
use Rattle.step_core.specs.Run.{Run, act, tick, fresh_run, run_from, run_of}
use Rattle.step_core.specs.Disturbance.{is_write_by_other, is_running, count_disturbed, disturbances_from, disturbances}
use Rattle.step_core.proofs.Acts.{begin, pass, give_up, turn_of, by_event}
use Rattle.step_core.proofs.Points.{by_number, with_at_same}
use Rattle.step_core.proofs.Claims.{one_more}
use Rattle.step_core.proofs.Book.{Inv, phase_by, states, other_caller, own_phase, states_after, states_ended, states_begun, inv_pass}
use Rattle.step_core.proofs.Runs.{inv_next, inv_fresh, open_busy, phase_here, step_moves}
use Rattle.step_core.proofs.Moves.{give_up_moves}

-- of a reading in a round that began after `base` disturbances, when there are now `count`: what the shard's revision has risen by
-- since it was read is no more than the disturbances since the round began
pub record Bounded (base count : ℕ) (read now : ℕ) : Type 0 where
  pub grown : read ≤ now
  pub risen : now + base ≤ read + count

pub record Round (round count : ℕ) (s : ℕ → ShardVersion) (readings : List ShardVersion) (taken : ℕ) (base : ℕ) : Type 0 where
  pub earlier : round ≤ base + 1
  pub since : base ≤ count
  pub bounded : (j : ℕ) → j < taken → Bounded base count (reading readings j).revision (s j).revision

abbrev pub Scan : ℕ → ℕ → (ℕ → ShardVersion) → ℕ → Phase → Type 0
Scan n rounds s count Idle = Unit {0}
Scan n rounds s count (Waiting op) = Unit {0}
Scan n rounds s count (Collecting round readings) = (base : ℕ) × Round round count s readings (length readings) base
Scan n rounds s count (Confirming round readings k) = (k < n) × (base : ℕ) × Round round count s readings n base
Scan n rounds s count (Done x) = (shard first second : ℕ) → x ≡ Err (Moved shard first second) → rounds ≤ count

-- ---- others' steps
bounded_on : (base count more read now later : ℕ) → now ≤ later → later ≤ now + more → Bounded base count read now → Bounded base (count + more) read later
bounded_on base count more read now later up by h = record { grown = omega (arith, h.grown, up); risen = omega (arith, h.risen, by) }

round_on : (round count more : ℕ) (s t : ℕ → ShardVersion) (readings : List ShardVersion) (taken base : ℕ) → ((j : ℕ) → (s j).revision ≤ (t j).revision) → ((j : ℕ) → (t j).revision ≤ (s j).revision + more)
    → Round round count s readings taken base → Round round (count + more) t readings taken base
round_on round count more s t readings taken base up by h =
    record { earlier = h.earlier; since = omega (arith, h.since); bounded = λ j l. bounded_on base count more (reading readings j).revision (s j).revision (t j).revision (up j) (by j) (h.bounded j l) }

-- what is done does not look at the shards
scan_done : (n rounds : ℕ) (s t : ℕ → ShardVersion) (count more : ℕ) (x : Result Reply AskError) → Scan n rounds s count (Done x) → Scan n rounds t (count + more) (Done x)
scan_done n rounds s t count more x h = λ shard first second is. omega (arith, h shard first second is)

scan_on : (n rounds : ℕ) (s t : ℕ → ShardVersion) (count more : ℕ) → ((j : ℕ) → (s j).revision ≤ (t j).revision) → ((j : ℕ) → (t j).revision ≤ (s j).revision + more)
    → (phase : Phase) → Scan n rounds s count phase → Scan n rounds t (count + more) phase
scan_on n rounds s t count more up by Idle h = tt
scan_on n rounds s t count more up by (Waiting op) h = tt
scan_on n rounds s t count more up by (Collecting round readings) h = (h.0, round_on round count more s t readings (length readings) h.0 up by h.1)
scan_on n rounds s t count more up by (Confirming round readings k) h = (h.0, h.1, round_on round count more s t readings n h.1 up by h.2)
scan_on n rounds s t count more up by (Done x) h = scan_done n rounds s t count more x h

-- ---- its own steps
round_more : (round count : ℕ) (s : ℕ → ShardVersion) (readings : List ShardVersion) (base : ℕ) → Round round count s readings (length readings) base
    → Round round count s (readings ++ s (length readings) ∷ []) (length (readings ++ s (length readings) ∷ [])) base
round_more round count s readings base h =
    let v = s (length readings) in
    record {
      earlier = h.earlier;
      since = h.since;
      bounded = λ j l.
          ⊎_elim (λ (before : (j < length readings) × (reading (readings ++ v ∷ []) j ≡ reading readings j)). subst (λ (x : ShardVersion). Bounded base count x.revision (s j).revision) (sym before.1) (h.bounded j before.0))
          (λ (at : (j ≡ length readings) × (reading (readings ++ v ∷ []) j ≡ v)). subst (λ (x : ShardVersion). Bounded base count x.revision (s j).revision) (sym (at.1 ∙ ap s (sym at.0)))
          (record { grown = omega arith; risen = omega (arith, h.since) })) (one_more readings v j l);
    }

scan_collects : (n rounds : ℕ) (s : ℕ → ShardVersion) (count round : ℕ) (now : List ShardVersion) (base : ℕ) → 0 < n → Round round count s now (length now) base → Scan n rounds s count (after_reading n round now)
scan_collects n rounds s count round now base some h =
    by_number (λ b. Scan n rounds s count (cond b (Confirming round now 0) (Collecting round now))) (length now) n
    (λ is. (some, base, subst (λ (x : ℕ). Round round count s now x base) is h)) (λ _. (base, h))

scan_confirmed : (n rounds : ℕ) (known : Option (List ℕ)) (s : ℕ → ShardVersion) (count round : ℕ) (readings : List ShardVersion) (k base : ℕ) → k < n → Round round count s readings n base → Scan n rounds s count (after_confirming n known round readings (k + 1))
scan_confirmed n rounds known s count round readings k base small h =
    by_number (λ b. Scan n rounds s count (cond b (Done (Ok (snapshot_reply n known readings))) (Confirming round readings (k + 1)))) (k + 1) n
    (λ _ shard first second is. cc) (λ ne. (omega (arith, small, ne), base, h))

no_reading : (count base round : ℕ) (s : ℕ → ShardVersion) → round ≤ count → Round (round + 1) count s [] 0 count
no_reading count base round s l = record { earlier = omega (arith, l); since = omega arith; bounded = λ j k. absurd (omega (arith, k)) }

scan_disturbed : (n rounds : ℕ) (s : ℕ → ShardVersion) (count round : ℕ) (k base first second : ℕ) → round ≤ count → Scan n rounds s count (after_disturbance rounds round k first second)
scan_disturbed n rounds s count round k base first second l =
    by_number (λ b. Scan n rounds s count (cond b (Done (Err (Moved k first second))) (Collecting (round + 1) []))) round rounds
    (λ same _ _ _ _. omega (arith, same, l)) (λ _. (count, no_reading count base round s l))

scan_confirm : (n rounds : ℕ) (known : Option (List ℕ)) (s : ℕ → ShardVersion) (count round : ℕ) (readings : List ShardVersion) (k base : ℕ) → k < n → Round round count s readings n base → Scan n rounds s count (confirm n rounds known round readings k (s k).revision)
scan_confirm n rounds known s count round readings k base small h =
    let read = (reading readings k).revision in
    let now = (s k).revision in
    let one = h.bounded k small in
    by_number (λ b. Scan n rounds s count (cond b (after_confirming n known round readings (k + 1)) (after_disturbance rounds round k read now))) read now
    (λ _. scan_confirmed n rounds known s count round readings k base small h)
    (λ ne. scan_disturbed n rounds s count round k base read now (omega (arith, ne, one.grown, one.risen, h.earlier)))

-- a step on one shard is not refused as moved
never_moved : (i : ℕ) (v : ShardVersion) (op : Op) (shard first second : ℕ) → of_shard i (step_on v op).answer ≡ Err (Moved shard first second) → ⊥
never_moved i v op shard first second is = grind arith

scan_turn : (n rounds : ℕ) (s : ℕ → ShardVersion) (op : Op) (count : ℕ) (phase : Phase) → 0 < n → Scan n rounds s count phase → Scan n rounds (turn n rounds s op phase).shards count (turn n rounds s op phase).phase
scan_turn n rounds s op count Idle some h = tt
scan_turn n rounds s op count (Waiting i) some h = λ shard first second is. absurd (never_moved i (s i) op shard first second is)
scan_turn n rounds s op count (Collecting round readings) some h = scan_collects n rounds s count round (readings ++ s (length readings) ∷ []) h.0 some (round_more round count s readings h.0 h.1)
scan_turn n rounds s op count (Confirming round readings k) some h = scan_confirm n rounds (known_of op) s count round readings k h.1 h.0 h.2
scan_turn n rounds s op count (Done reply) some h = h

-- ---- a step raises a revision by one at most, and only if it writes
abbrev Rises : (ℕ → ShardVersion) → Turn → Type 0
Rises s t = (j : ℕ) → ((s j).revision ≤ (t.shards j).revision) × ((t.shards j).revision ≤ (s j).revision + cond (wrote_shard t.phase) 1 0)

level : (s : ℕ → ShardVersion) (phase : Phase) → Rises s (record { shards = s; phase = phase })
level s phase j = (omega arith, omega arith)

shard_rise : (v : ShardVersion) (op : Op) (i : ℕ) → (v.revision ≤ (step_on v op).shard.revision) × ((step_on v op).shard.revision ≤ v.revision + cond (wrote_shard (Done (of_shard i (step_on v op).answer))) 1 0)
shard_rise v op i = grind arith

step_rise : (s : ℕ → ShardVersion) (op : Op) (i : ℕ) → Rises s (record { shards = with_at s i (step_on (s i) op).shard; phase = Done (of_shard i (step_on (s i) op).answer) })
step_rise s op i j =
    let more : ℕ = cond (wrote_shard (Done (of_shard i (step_on (s i) op).answer))) 1 0 in
    by_number (λ b. let v : ShardVersion = cond b (step_on (s i) op).shard (s j) in ((s j).revision ≤ v.revision) × (v.revision ≤ (s j).revision + more)) j i
    (λ is. subst (λ (k : ℕ). ((s k).revision ≤ (step_on (s i) op).shard.revision) × ((step_on (s i) op).shard.revision ≤ (s k).revision + more)) (sym is) (shard_rise (s i) op i))
    (λ _. (omega arith, omega arith))

turn_rise : (n rounds : ℕ) (s : ℕ → ShardVersion) (op : Op) (phase : Phase) → Rises s (turn n rounds s op phase)
turn_rise n rounds s op Idle = level s Idle
turn_rise n rounds s op (Waiting i) = step_rise s op i
turn_rise n rounds s op (Collecting round readings) = level s (after_reading n round (readings ++ s (length readings) ∷ []))
turn_rise n rounds s op (Confirming round readings k) = level s (confirm n rounds (known_of op) round readings k (s k).revision)
turn_rise n rounds s op (Done reply) = level s (Done reply)

-- ---- along a run
abbrev ScanAll : ℕ → ℕ → Run → (ℕ → ℕ) → Type 0
ScanAll n rounds run counts = (q : ℕ) → q < run.count → Scan n rounds run.world.shards (counts q) (states run q)

scan_same : (n rounds : ℕ) (s : ℕ → ShardVersion) (count more : ℕ) (phase : Phase) → Scan n rounds s count phase → Scan n rounds s (count + more) phase
scan_same n rounds s count more phase h = scan_on n rounds s s count more (λ j. omega arith) (λ j. omega arith) phase h

scan_other : (n rounds : ℕ) (s t : ℕ → ShardVersion) (count more : ℕ) (reply : Option (Result Reply AskError)) (phase : Phase) → ((j : ℕ) → (s j).revision ≤ (t j).revision)
    → (reply ≡ None → (j : ℕ) → (t j).revision ≤ (s j).revision + more) → Scan n rounds s count (phase_by reply phase) → Scan n rounds t (count + more) (phase_by reply phase)
scan_other n rounds s t count more (Some x) phase up by h = scan_done n rounds s t count more x h
scan_other n rounds s t count more None phase up by h = scan_on n rounds s t count more up (by refl) phase h

other_one : (q count : ℕ) (reply : Option (Result Reply AskError)) (o w : Bool) (c d : ℕ) → q < count → reply ≡ None → o ≡ true → d ≢ c → ◌≡◌ {A = ℕ} (cond ((nat_lt q count && is_none reply) && ((o && w) && not (c == d))) 1 0) (cond w 1 0)
other_one q count reply o w c d l none opened ne = grind (arith, nat_tests)

never_refused : (reason : Why) (shard first second : ℕ) → ◌≡◌ {A = Result Reply AskError} (Err (refusal reason)) (Err (Moved shard first second)) → ⊥
never_refused reason shard first second is = grind arith

begun_scan : (n rounds : ℕ) (s : ℕ → ShardVersion) (count : ℕ) (at : Option ℕ) → Scan n rounds s count (start_phase_at at)
begun_scan n rounds s count (Some i) = tt
begun_scan n rounds s count None = (0, record { earlier = omega arith; since = omega arith; bounded = λ j k. absurd (omega (arith, k)) })

module _ (n rounds : ℕ) (some : 0 < n) (run : Run) (inv : Inv n run.events run) (counts : ℕ → ℕ) (scans : ScanAll n rounds run counts) where
  abbrev more : Event → ℕ → ℕ
  more event q = cond (is_running run q && is_write_by_other n rounds run event (run.records q).caller) 1 0

  -- an operation whose phase the event leaves
  scan_still : (event : Event) (q : ℕ) → q < run.count → Scan n rounds run.world.shards (counts q + more event q) (states run q)
  scan_still event q l = scan_same n rounds run.world.shards (counts q) (more event q) (states run q) (scans q l)

  scan_step : (c : ℕ) → is_open (run.world.phases c) ≡ true → ScanAll n rounds (pass run c (turn_of n rounds run c)) (count_disturbed n rounds run (Step c) counts)
  scan_step c opened q l =
      let h = open_busy (run.world.phases c) opened in
      let r = run.current c in
      let t : Turn = turn_of n rounds run c in
      let rise = turn_rise n rounds run.world.shards (run.world.ops c) (run.world.phases c) in
      subst (Scan n rounds t.shards (counts q + more (Step c) q)) (sym (states_after n run.events run inv c h (omega arith) t (step_moves n rounds some run inv c opened) q l))
      (by_number (λ b. Scan n rounds t.shards (counts q + more (Step c) q) (cond b t.phase (states run q))) q r
      (λ is. scan_same n rounds t.shards (counts q) (more (Step c) q) t.phase (scan_turn n rounds run.world.shards (run.world.ops c) (counts q) (run.world.phases c) some
      (subst (Scan n rounds run.world.shards (counts q)) (ap (states run) is ∙ own_phase n run.events run inv c h) (scans q l))))
      (λ ne. scan_other n rounds run.world.shards t.shards (counts q) (more (Step c) q) (run.records q).reply (run.world.phases (run.records q).caller) (λ j. (rise j).0)
      (λ none j. subst (λ (x : ℕ). (t.shards j).revision ≤ (run.world.shards j).revision + x)
      (sym (other_one q run.count (run.records q).reply (is_open (run.world.phases c)) (wrote_shard t.phase) c (run.records q).caller l none opened (other_caller n run.events run inv c h q l ne none))) (rise j).1)
      (scans q l)))

  scan_quit : (c : ℕ) (reason : Why) → is_open (run.world.phases c) ≡ true → ScanAll n rounds (give_up run c (refusal reason)) (count_disturbed n rounds run (Quit c reason) counts)
  scan_quit c reason opened q l =
      let h = open_busy (run.world.phases c) opened in
      let r = run.current c in
      let t : Turn = to_phase run.world (Done (Err (refusal reason))) in
      let move = give_up_moves n run.world.shards (run.records r).op (refusal reason) (run.world.phases c) opened (phase_here n rounds some run inv c h) in
      let passed = inv_pass n run.events run inv c h (omega arith) t move in
      let now : (pass run c t).world.phases c ≡ Done (Err (refusal reason)) = with_at_same run.world.phases c (Done (Err (refusal reason))) c refl in
      let ended = states_ended n (suc run.events) (pass run c t) passed c (ap is_idle now) (omega arith) (Err (refusal reason)) now q l in
      subst (Scan n rounds run.world.shards (counts q + more (Quit c reason) q)) (sym (ended ∙ states_after n run.events run inv c h (omega arith) t move q l))
      (by_number (λ b. Scan n rounds run.world.shards (counts q + more (Quit c reason) q) (cond b (Done (Err (refusal reason))) (states run q))) q r
      (λ _ shard first second is. absurd (never_refused reason shard first second is)) (λ _. scan_still (Quit c reason) q l))

  scan_begin : (c : ℕ) (op : Op) → is_idle (run.world.phases c) ≡ true → ScanAll n rounds (begin n run c op) (count_disturbed n rounds run (Begin c op) counts)
  scan_begin c op idle q l =
      subst (Scan n rounds run.world.shards (counts q + more (Begin c op) q)) (sym (states_begun n run.events some run inv (omega arith) c op idle q l))
      (by_number (λ b. Scan n rounds run.world.shards (counts q + more (Begin c op) q) (cond b (start_phase n op) (states run q))) q run.count
      (λ _. begun_scan n rounds run.world.shards (counts q + more (Begin c op) q) (shard_of n op)) (λ ne. scan_still (Begin c op) q (omega (arith, l, ne))))

  scan_act : (event : Event) → ScanAll n rounds (act n rounds run event) (count_disturbed n rounds run event counts)
  scan_act =
      by_event (λ x event. ScanAll n rounds x (count_disturbed n rounds run event counts)) n rounds run scan_still scan_begin scan_step scan_quit
      (λ c reply is q l. subst (Scan n rounds run.world.shards (counts q + more (End c) q)) (sym (states_ended n run.events run inv c (ap is_idle is) (omega arith) reply is q l)) (scan_still (End c) q l))

scan_from : (n rounds : ℕ) → 0 < n → (events : List Event) (run : Run) (counts : ℕ → ℕ) → Inv n run.events run → ScanAll n rounds run counts → ScanAll n rounds (run_from n rounds run events) (disturbances_from n rounds run counts events)
scan_from n rounds some [] run counts inv scans = scans
scan_from n rounds some (event ∷ events) run counts inv scans =
    scan_from n rounds some events (tick (act n rounds run event)) (count_disturbed n rounds run event counts) (inv_next n rounds some run inv event) (scan_act n rounds some run inv counts scans event)

pub moved_was_disturbed : (n rounds : ℕ) (events : List Event) → 0 < n → (r shard first second : ℕ) → r < (run_of n rounds events).count
    → ((run_of n rounds events).records r).reply ≡ Some (Err (Moved shard first second)) → rounds ≤ disturbances n rounds events r
moved_was_disturbed n rounds events some r shard first second l is =
    let run = run_of n rounds events in
    subst (λ x. Scan n rounds run.world.shards (disturbances n rounds events r) (phase_by x (run.world.phases (run.records r).caller))) is
    (scan_from n rounds some events fresh_run (λ q. 0) (inv_fresh n) (λ q k. absurd (omega (arith, k))) r l) shard first second refl
