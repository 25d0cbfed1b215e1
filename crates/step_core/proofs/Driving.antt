-- What each event does to a driver that shows a run.
use Rattle.std.proofs.Common.{◌≡◌, ◌≢◌, ℕ, ◌<◌, Bool, true, false, cond, List, [], ◌∷◌, ◌++◌, length, get_or, set, Option, Some, None, Result, Err, IfSome, ◌⊎◌, arith, refl, sym, ap, subst, ◌∙◌, ⊎_elim}
use Rattle.std.proofs.lemmas.Grind.{elements}
use Rattle.std.specs.Ordering.{nat_cmp}
use Rattle.std.specs.BTreeMap as tree
use Rattle.map_core.specs.declared.op.Op.{Op}
use Rattle.map_core.specs.declared.reply.AskError.{AskError}
use Rattle.map_core.specs.declared.reply.Reply.{Reply}
use Rattle.map_core.specs.PlainMap.{shard_of}
use Rattle.step_core.specs.declared.event.Event.TheVariants.{Begin, Step, Quit}
use Rattle.step_core.specs.declared.event.Why.{Why}
use Rattle.step_core.specs.World.{with_at, Turn, turn, refusal, to_phase}
use Rattle.step_core.specs.Shard.{ShardVersion}
use Rattle.step_core.specs.Phase.{Phase, Idle, Done, wants, give, start_phase, start_phase_at, is_idle, is_open, is_done, wrote_shard, Observation, has_point}
use Rattle.step_core.specs.declared.trace.OpRecord.{OpRecord}
use Rattle.step_core.specs.Run.{Point, Run, update_points, numbers, act}
use Rattle.step_core.proofs.Acts.{begin, pass, give_up, turn_of, act_is}
use Rattle.step_core.specs.Records.{no_record}
use Rattle.map_core.specs.Op.{known_of}
use Rattle.step_core.specs.TaskView.{TaskView}
use Rattle.step_core.specs.Task.{IsWantOf, out_of_memory}
use Rattle.step_core.specs.Private.Driver.{positions, IsPlaced, place_after, observation_by, left_by, update_positions, with_wrote, with_end}
use Rattle.step_core.specs.Private.Shown.{ShowsShards, ShowsRecords, ShowsCaller, IsCaller, IsShown}
use Rattle.step_core.specs.declared.driver.Running.{Running}
use Rattle.step_core.specs.declared.driver.Driver.{Driver}
use Rattle.step_core.proofs.Points.{with_at_same, with_at_other, with_at_keep}
use Rattle.step_core.proofs.Callers.{AtCaller, KeepsCaller, KeepsPlaces, other_running, callers_after}
use Rattle.step_core.proofs.Lists.{records_push, records_set, told_alike, left_alike}
use Rattle.step_core.proofs.Places.{AreKnown, repointed_numbers, own_placed, other_placed, still_known, new_unplaced}

-- ---- the events
-- a driver that shows the run after one caller has gone on, whose operation has this number
updated : (n rounds : ℕ) (old new : Driver) (run next : Run) (c number : ℕ) (y : Option Running) (shards : List ShardVersion) (ops : List OpRecord) (points : List (Option ℕ)) → IsShown n rounds old run → new.rounds ≡ old.rounds
    → new.shards.items ≡ shards → new.ops.items ≡ ops → new.points.items ≡ points → ShowsShards n shards next.world.shards
    → AtCaller old.callers new.callers c y → IsCaller n rounds next points c y → ((d : ℕ) → d ≢ c → KeepsCaller run next d) → KeepsPlaces number old.points.items points
    → ((d : ℕ) → d ≢ c → IfSome (tree.get nat_cmp old.callers d) (λ running. number ≢ running.number))
    → ShowsRecords ops next.count next.records → positions points ≡ numbers next.points → AreKnown points next.count → IsShown n rounds new next
updated n rounds old new run next c number y shards ops points h r s o p shows at own keeps places apart records numbered known =
    record {
      rounds_are = r ∙ h.rounds_are;
      shards = subst (λ (x : List ShardVersion). ShowsShards n x next.world.shards) (sym s) shows;
      callers = λ d. subst (λ (x : List (Option ℕ)). IsCaller n rounds next x d (tree.get nat_cmp new.callers d)) (sym p)
          (callers_after n rounds run next old.points.items points old.callers new.callers c number y at own keeps places apart h.callers d);
      records = subst (λ x. ShowsRecords x next.count next.records) (sym o) records;
      points = ap positions p ∙ numbered;
      known = subst (λ (x : List (Option ℕ)). AreKnown x next.count) (sym p) known;
    }

-- what is known of a caller that is looked up
pub idle_caller : (n rounds : ℕ) (driver : Driver) (run : Run) (c : ℕ) → IsShown n rounds driver run → tree.get nat_cmp driver.callers c ≡ None → run.world.phases c ≡ Idle
idle_caller n rounds driver run c h none = let is : IsCaller n rounds run driver.points.items c None = subst (IsCaller n rounds run driver.points.items c) none (h.callers c) in is

pub running_caller : (n rounds : ℕ) (driver : Driver) (run : Run) (c : ℕ) (x : Running) → IsShown n rounds driver run → tree.get nat_cmp driver.callers c ≡ Some x → ShowsCaller n rounds run driver.points.items c x
running_caller n rounds driver run c x h some = let is : IsCaller n rounds run driver.points.items c (Some x) = subst (IsCaller n rounds run driver.points.items c) some (h.callers c) in is

-- the operations of other callers have other numbers
others_apart : (n rounds : ℕ) (driver : Driver) (run : Run) (c : ℕ) (x : Running) → IsShown n rounds driver run → ShowsCaller n rounds run driver.points.items c x → (d : ℕ) → d ≢ c
    → IfSome (tree.get nat_cmp driver.callers d) (λ running. x.number ≢ running.number)
others_apart n rounds driver run c x h own d ne =
    other_running n rounds run driver.points.items c d x.number (tree.get nat_cmp driver.callers d) (ap (λ (q : ℕ). (run.records q).caller) own.number ∙ own.caller) ne (h.callers d)

new_apart : (n rounds : ℕ) (run : Run) (points : List (Option ℕ)) (d : ℕ) (y : Option Running) → IsCaller n rounds run points d y → IfSome y (λ running. run.count ≢ running.number)
new_apart n rounds run points d None h = tt
new_apart n rounds run points d (Some x) h = λ same. omega (arith, h.known, same)

begun_busy : (at : Option ℕ) → is_idle (start_phase_at at) ≡ false
begun_busy at = grind arith

begun_unplaced : (at : Option ℕ) → has_point (start_phase_at at) ≡ false
begun_unplaced at = grind arith

-- an operation begins
pub begun_shown : (n rounds : ℕ) (old new : Driver) (run : Run) (c : ℕ) (op : Op) (x : Running) (entry : OpRecord) → IsShown n rounds old run → tree.get nat_cmp old.callers c ≡ None → new.rounds ≡ old.rounds
    → new.shards.items ≡ old.shards.items → AtCaller old.callers new.callers c (Some x) → x.number ≡ length old.ops.items → x.task ≡ record { shards = n; rounds = rounds; known = known_of op; phase = start_phase n op }
    → new.ops.items ≡ old.ops.items ++ entry ∷ [] → entry ≡ record { caller = c; op = op; first = run.events; last = None; reply = None; wrote = false } → new.points.items ≡ old.points.items
    → IsShown n rounds new (act n rounds run (Begin c op))
begun_shown n rounds old new run c op x entry h none same shards at number task ops entry_is points =
    let next = begin n run c op in
    let fresh : OpRecord = record { caller = c; op = op; first = run.events; last = None; reply = None; wrote = false } in
    let numbered : x.number ≡ run.count = number ∙ h.records.size in
    let current : next.current c ≡ run.count = with_at_same run.current c run.count c refl in
    let begun : next.records (next.current c) ≡ fresh = with_at_same run.records run.count fresh (next.current c) current in
    let phase : next.world.phases c ≡ start_phase n op = with_at_same run.world.phases c (start_phase n op) c refl in
    let unplaced : has_point x.task.phase ≡ false = ap (λ (v : TaskView). has_point v.phase) task ∙ begun_unplaced (shard_of n op) in
    let own : ShowsCaller n rounds next old.points.items c x = record {
      number = numbered ∙ sym current;
      known = omega (arith, numbered);
      caller = ap (λ (r : OpRecord). r.caller) begun;
      op = with_at_same run.world.ops c op c refl ∙ sym (ap (λ (r : OpRecord). r.op) begun);
      busy = ap is_idle phase ∙ begun_busy (shard_of n op);
      task = task ∙ (λ i. record { shards = n; rounds = rounds; known = known_of (sym (with_at_same run.world.ops c op c refl) i); phase = sym phase i });
      place = subst (λ (b : Bool). IsPlaced old.points.items x.number b x.place) (sym unplaced)
          (subst (λ (k : ℕ). IsPlaced old.points.items k false x.place) (sym numbered) (new_unplaced old.points.items run.count x.place h.known));
    } in
    let before : (q : ℕ) → q < run.count → next.records q ≡ run.records q = λ q l. with_at_other run.records run.count fresh q (λ is. omega (arith, l, is)) in
    let keeps : (d : ℕ) → d ≢ c → KeepsCaller run next d = λ d ne. record {
      phase = with_at_other run.world.phases c (start_phase n op) d ne;
      op = with_at_other run.world.ops c op d ne;
      current = with_at_other run.current c run.count d ne;
      count = omega arith;
      asked = λ q l. ap (λ (r : OpRecord). r.op) (before q l);
      begun_by = λ q l. ap (λ (r : OpRecord). r.caller) (before q l);
    } in
    subst (IsShown n rounds new) (sym (act_is n rounds run (Begin c op) ∙ ap (λ (p : Phase). cond (is_idle p) next run) (idle_caller n rounds old run c h none)))
    (updated n rounds old new run next c run.count (Some x) old.shards.items (old.ops.items ++ fresh ∷ []) old.points.items h same shards (ops ∙ ap (λ (r : OpRecord). old.ops.items ++ r ∷ []) entry_is) points h.shards at own keeps
    (λ q has place ne is. is) (λ d ne. new_apart n rounds run old.points.items d (tree.get nat_cmp old.callers d) (h.callers d)) (records_push old.ops.items run.count run.records fresh h.records) h.points
    (λ i q is. omega (arith, h.known i q is)))

undone_open : (p : Phase) → is_idle p ≡ false → is_done p ≡ false → is_open p ≡ true
undone_open p i h = grind arith

keeps_itself : (run : Run) (d : ℕ) → KeepsCaller run run d
keeps_itself run d = record { phase = refl; op = refl; current = refl; count = omega arith; asked = λ q l. refl; begun_by = λ q l. refl }

-- what other callers keep when the phase of this one changes, and the record of its operation
keeps_changed : (run mid : Run) (c : ℕ) (shards : ℕ → ShardVersion) (phase : Phase) (x : OpRecord) (points : List Point) → x.op ≡ (mid.records (mid.current c)).op → x.caller ≡ (mid.records (mid.current c)).caller
    → (d : ℕ) → d ≢ c → KeepsCaller run mid d
    → KeepsCaller run (record mid { world = record (mid.world) { shards = shards; phases = with_at mid.world.phases c phase }; records = with_at mid.records (mid.current c) x; points = points }) d
keeps_changed run mid c shards phase x points op caller d ne h =
    record {
      phase = with_at_other mid.world.phases c phase d ne ∙ h.phase;
      op = h.op;
      current = h.current;
      count = h.count;
      asked = λ q l. with_at_keep (λ (r : OpRecord). r.op) mid.records (mid.current c) x op q ∙ h.asked q l;
      begun_by = λ q l. with_at_keep (λ (r : OpRecord). r.caller) mid.records (mid.current c) x caller q ∙ h.begun_by q l;
    }

-- the records after one of them, shown in the list under this number, has changed by f
changed_shown : (f : OpRecord → OpRecord) (list : List OpRecord) (count : ℕ) (records : ℕ → OpRecord) (current number : ℕ) → number ≡ current → number < count → ShowsRecords list count records
    → ShowsRecords (set list number (f (get_or list number no_record))) count (with_at records current (f (records current)))
changed_shown f list count records current number is below h =
    subst (λ (k : ℕ). ShowsRecords (set list number (f (get_or list number no_record))) count (with_at records k (f (records k)))) is
    (subst (λ (r : OpRecord). ShowsRecords (set list number (f (get_or list number no_record))) count (with_at records number (f r))) (h.each number below)
    (records_set list count records number (f (get_or list number no_record)) below h))

-- a step does not make a caller idle
turn_busy : (n rounds : ℕ) (s : ℕ → ShardVersion) (op : Op) (p : Phase) → is_open p ≡ true → is_idle (turn n rounds s op p).phase ≡ false
turn_busy n rounds s op p h = grind arith

-- a task after an answer, if there was memory
pub given_task : (n rounds : ℕ) (known : Option (List ℕ)) (x new : TaskView) (p : Phase) (a b : Observation) → x ≡ record { shards = n; rounds = rounds; known = known; phase = p } → new.shards ≡ x.shards → new.rounds ≡ x.rounds → new.known ≡ x.known
    → (new.phase ≡ give x.shards x.rounds x.known x.phase a) ⊎ (new.phase ≡ out_of_memory) → (new.phase ≡ out_of_memory → ⊥) → a ≡ b → new ≡ record { shards = n; rounds = rounds; known = known; phase = give n rounds known x.phase b }
given_task n rounds known x new p a b is s r k phase memory same =
    let given : new.phase ≡ give x.shards x.rounds x.known x.phase a = ⊎_elim (λ (e : new.phase ≡ give x.shards x.rounds x.known x.phase a). e) (λ (e : new.phase ≡ out_of_memory). absurd (memory e)) phase in
    (λ i. record { shards = s i; rounds = r i; known = k i; phase = given i })
    ∙ (λ i. record { shards = (is i).shards; rounds = (is i).rounds; known = (is i).known; phase = give (is i).shards (is i).rounds (is i).known x.phase (same i) })

-- an operation goes on
pub stepped_shown : (n rounds : ℕ) (old new : Driver) (run : Run) (c : ℕ) (x y : Running) (op : Op) → IsShown n rounds old run → tree.get nat_cmp old.callers c ≡ Some x → is_done x.task.phase ≡ false → IsWantOf n (wants x.task.phase)
    → op ≡ (get_or old.ops.items x.number no_record).op → new.rounds ≡ old.rounds → new.shards.items ≡ left_by old.shards.items op (wants x.task.phase) → AtCaller old.callers new.callers c (Some y) → y.number ≡ x.number
    → y.task ≡ record { shards = n; rounds = rounds; known = known_of (run.world.ops c); phase = give n rounds (known_of (run.world.ops c)) x.task.phase (observation_by old.shards.items op (wants x.task.phase)) }
    → new.ops.items ≡ set old.ops.items x.number (with_wrote (get_or old.ops.items x.number no_record) (wrote_shard y.task.phase))
    → new.points.items ≡ update_positions (has_point x.task.phase) (has_point y.task.phase) x.number x.place old.points.items → y.place ≡ place_after (has_point x.task.phase) (has_point y.task.phase) x.place old.points.items
    → IsShown n rounds new (act n rounds run (Step c))
stepped_shown n rounds old new run c x y op h some undone inside op_is same shards at number task ops points place =
    let own = running_caller n rounds old run c x h some in
    let p = run.world.phases c in
    let t : Turn = turn_of n rounds run c in
    let next = pass run c t in
    let mine : OpRecord = run.records (run.current c) in
    let passed : OpRecord = with_wrote mine (wrote_shard t.phase) in
    let phase_is : x.task.phase ≡ p = ap (λ (v : TaskView). v.phase) own.task in
    let op_same : op ≡ run.world.ops c = op_is ∙ ap (λ (r : OpRecord). r.op) (h.records.each x.number own.known) ∙ ap (λ (q : ℕ). (run.records q).op) own.number ∙ sym own.op in
    let inside' : IsWantOf n (wants p) = subst (λ (q : Phase). IsWantOf n (wants q)) phase_is inside in
    let undone' : is_done p ≡ false = sym (ap is_done phase_is) ∙ undone in
    let told : y.task.phase ≡ t.phase = ap (λ (v : TaskView). v.phase) task ∙ (λ i. give n rounds (known_of (run.world.ops c)) (phase_is i) (observation_by old.shards.items (op_same i) (wants (phase_is i))))
    ∙ told_alike n rounds old.shards.items run.world.shards (run.world.ops c) p h.shards inside' undone' in
    let phase_now : next.world.phases c ≡ t.phase = with_at_same run.world.phases c t.phase c refl in
    let had = has_point x.task.phase in
    let has = has_point y.task.phase in
    let there = old.points.items in
    let now = update_positions had has x.number x.place there in
    let list = old.ops.items in
    let caller : ShowsCaller n rounds next now c y = record {
      number = number ∙ own.number;
      known = subst (λ (k : ℕ). k < run.count) (sym number) own.known;
      caller = with_at_keep (λ (r : OpRecord). r.caller) run.records (run.current c) passed refl (run.current c) ∙ own.caller;
      op = own.op ∙ sym (with_at_keep (λ (r : OpRecord). r.op) run.records (run.current c) passed refl (run.current c));
      busy = ap is_idle phase_now ∙ turn_busy n rounds run.world.shards (run.world.ops c) p (undone_open p own.busy undone');
      task = task ∙ ap (λ (q : Phase). record { shards = n; rounds = rounds; known = known_of (run.world.ops c); phase = q }) (sym (ap (λ (v : TaskView). v.phase) task) ∙ told ∙ sym phase_now);
      place = subst (λ (k : ℕ). IsPlaced now k has y.place) (sym number) (subst (IsPlaced now x.number has) (sym place) (own_placed had has there x.number x.place own.place));
    } in
    subst (IsShown n rounds new) (sym (act_is n rounds run (Step c) ∙ ap (λ b. cond b next run) (undone_open p own.busy undone')))
    (updated n rounds old new run next c x.number (Some y) (left_by old.shards.items (run.world.ops c) (wants p)) (set list x.number (with_wrote (get_or list x.number no_record) (wrote_shard t.phase))) now h same
    (shards ∙ (λ i. left_by old.shards.items (op_same i) (wants (phase_is i)))) (ops ∙ ap (λ (q : Phase). set list x.number (with_wrote (get_or list x.number no_record) (wrote_shard q))) told) points
    (left_alike n rounds old.shards.items run.world.shards (run.world.ops c) p h.shards inside') at caller (λ d ne. keeps_changed run run c t.shards t.phase passed next.points refl refl d ne (keeps_itself run d))
    (λ q e k ne. other_placed had has there x.number x.place q e k ne own.place) (others_apart n rounds old run c x h own)
    (changed_shown (λ (r : OpRecord). with_wrote r (wrote_shard t.phase)) list run.count run.records (run.current c) x.number own.number own.known h.records)
    (repointed_numbers had has there x.place (record { number = x.number; op = mine.op; event = run.events }) run.points own.place h.points
    ∙ (λ i. numbers (update_points (has_point (phase_is i)) (has_point (told i)) (record { number = own.number i; op = mine.op; event = run.events }) run.points)))
    (still_known had has there x.number x.place run.count own.known h.known))

-- an operation is given up
pub quit_shown : (n rounds : ℕ) (old new : Driver) (run : Run) (c : ℕ) (x : Running) (reason : Why) (now : ℕ) → IsShown n rounds old run → run.events ≡ now → tree.get nat_cmp old.callers c ≡ Some x → is_done x.task.phase ≡ false
    → new.rounds ≡ old.rounds → new.shards.items ≡ old.shards.items → AtCaller old.callers new.callers c None
    → (mid : List OpRecord) → mid ≡ set old.ops.items x.number (with_wrote (get_or old.ops.items x.number no_record) false)
    → new.ops.items ≡ set mid x.number (with_end (get_or mid x.number no_record) now (Err (refusal reason)))
    → new.points.items ≡ update_positions (has_point x.task.phase) false x.number x.place old.points.items
    → IsShown n rounds new (act n rounds run (Quit c reason))
quit_shown n rounds old new run c x reason now h time some undone same shards at mid mid_is ops points =
    let own = running_caller n rounds old run c x h some in
    let p = run.world.phases c in
    let refused : Result Reply AskError = Err (refusal reason) in
    let t : Turn = to_phase run.world (Done refused) in
    let passed = pass run c t in
    let next = give_up run c (refusal reason) in
    let mine : OpRecord = run.records (run.current c) in
    let phase_is : x.task.phase ≡ p = ap (λ (v : TaskView). v.phase) own.task in
    let undone' : is_done p ≡ false = sym (ap is_done phase_is) ∙ undone in
    let halfway : ShowsRecords mid run.count passed.records = subst (λ (l : List OpRecord). ShowsRecords l run.count passed.records) (sym mid_is)
    (changed_shown (λ (r : OpRecord). with_wrote r false) old.ops.items run.count run.records (run.current c) x.number own.number own.known h.records) in
    let had = has_point x.task.phase in
    let there = old.points.items in
    subst (IsShown n rounds new) (sym (act_is n rounds run (Quit c reason) ∙ ap (λ b. cond b next run) (undone_open p own.busy undone')))
    (updated n rounds old new run next c x.number None old.shards.items (set mid x.number (with_end (get_or mid x.number no_record) run.events refused)) (update_positions had false x.number x.place there) h same shards
    (ops ∙ ap (λ (k : ℕ). set mid x.number (with_end (get_or mid x.number no_record) k refused)) (sym time)) points h.shards at (with_at_same passed.world.phases c Idle c refl)
    (λ d ne. keeps_changed run passed c run.world.shards Idle (with_end (passed.records (run.current c)) run.events refused) passed.points refl refl d ne
    (keeps_changed run run c run.world.shards (Done refused) (with_wrote mine false) passed.points refl refl d ne (keeps_itself run d)))
    (λ q e k ne. other_placed had false there x.number x.place q e k ne own.place) (others_apart n rounds old run c x h own)
    (changed_shown (λ (r : OpRecord). with_end r run.events refused) mid run.count passed.records (run.current c) x.number own.number own.known halfway)
    (repointed_numbers had false there x.place (record { number = x.number; op = mine.op; event = run.events }) run.points own.place h.points
    ∙ (λ i. numbers (update_points (has_point (phase_is i)) false (record { number = own.number i; op = mine.op; event = run.events }) run.points)))
    (still_known had false there x.number x.place run.count own.known h.known))

-- ---- an operation's record
pub op_at : (ops : List OpRecord) (k : ℕ) (e : OpRecord) → e ≡ get_or ops k e → k < length ops → e.op ≡ (get_or ops k no_record).op
op_at ops k e is l = ap (λ (r : OpRecord). r.op) (is ∙ any_default ops k e l)
  where
    any_default : (xs : List OpRecord) (k : ℕ) (d : OpRecord) → k < length xs → get_or xs k d ≡ get_or xs k no_record
    any_default xs k d l = grind (arith, elements)

pub known_record : (n rounds : ℕ) (driver : Driver) (run : Run) (c : ℕ) (x : Running) → IsShown n rounds driver run → ShowsCaller n rounds run driver.points.items c x → x.number < length driver.ops.items
known_record n rounds driver run c x h own = subst (λ (k : ℕ). x.number < k) (sym h.records.size) own.known
