-- What is confirmed has stood since it was read.
use Rattle.std.proofs.Common.{◌≡◌, ℕ, ◌+◌, ◌<◌, ◌≤◌, ◌==◌, Bool, true, false, cond, List, [], ◌∷◌, ◌++◌, length, Option, Ok, Err, ◌⊎◌, inl, inr, ⊎_elim, arith, length-append, refl, sym, ap, subst, ◌∙◌}
use Rattle.map_core.specs.declared.op.Op.{Op}
use Rattle.map_core.specs.declared.reply.AskError.TheVariants.{Moved}
use Rattle.step_core.specs.declared.event.Event.{Event}
use Rattle.step_core.specs.declared.event.Event.TheVariants.{Begin, Step, Quit, End}
use Rattle.map_core.specs.Op.{known_of}
use Rattle.step_core.specs.World.{World, Turn, turn, next, after_turn, with_operation, to_phase, world_from}
use Rattle.step_core.specs.Shard.{ShardVersion, fresh_shard, reading}
use Rattle.step_core.specs.Phase.{Phase, Idle, Waiting, Collecting, Confirming, Done, after_reading, after_confirming, snapshot_reply, after_disturbance, confirm, start_phase, is_idle, is_open, is_done}
use Rattle.step_core.specs.Laws.{BeginsNothing}
use Rattle.std.proofs.Math.ListN.{get_or-append}
use Rattle.std.proofs.Math.Seq.{get_or-append_seam}
use Rattle.step_core.proofs.Points.{by_test, by_number, with_at_same}
use Rattle.step_core.proofs.Between.{holds_between}

-- the round is this one, and P holds; or a later one has begun
abbrev In : ℕ → ℕ → Type 0 → Type 0
In round now P = (round < now) ⊎ ((now ≡ round) × P)

-- in this round the reading of shard k is v; or a later round has begun, or the operation is over
abbrev Kept : ℕ → ℕ → ShardVersion → Phase → Type 0
Kept round k v Idle = Unit {0}
Kept round k v (Waiting i) = Unit {0}
Kept round k v (Collecting now readings) = In round now ((k < length readings) × (reading readings k ≡ v))
Kept round k v (Confirming now readings j) = In round now (reading readings k ≡ v)
Kept round k v (Done reply) = Unit {0}

collected_keeps : (n round k now : ℕ) (v : ShardVersion) (readings : List ShardVersion) → In round now ((k < length readings) × (reading readings k ≡ v)) → Kept round k v (after_reading n now readings)
collected_keeps n round k now v readings h =
    by_test (λ b. Kept round k v (cond b (Confirming now readings 0) (Collecting now readings))) (length readings == n)
    (λ _. ⊎_elim inl (λ (p : (now ≡ round) × ((k < length readings) × (reading readings k ≡ v))). inr (p.0, p.1.1)) h) (λ _. h)

confirmed_keeps : (n : ℕ) (known : Option (List ℕ)) (round k now : ℕ) (v : ShardVersion) (readings : List ShardVersion) (j : ℕ) → In round now (reading readings k ≡ v) → Kept round k v (after_confirming n known now readings j)
confirmed_keeps n known round k now v readings j h = by_test (λ b. Kept round k v (cond b (Done (Ok (snapshot_reply n known readings))) (Confirming now readings j))) (j == n) (λ _. tt) (λ _. h)

disturbed_keeps : (rounds round k now : ℕ) (v : ShardVersion) (j first second : ℕ) → round ≤ now → Kept round k v (after_disturbance rounds now j first second)
disturbed_keeps rounds round k now v j first second l =
    by_test (λ b. Kept round k v (cond b (Done (Err (Moved j first second))) (Collecting (now + 1) []))) (now == rounds) (λ _. tt) (λ _. inl (omega (arith, l)))

not_before : (round now : ℕ) (P : Type 0) → In round now P → round ≤ now
not_before round now P h = ⊎_elim (λ (l : round < now). omega (arith, l)) (λ (p : (now ≡ round) × P). omega (arith, p.0)) h

confirm_keeps : (n rounds : ℕ) (known : Option (List ℕ)) (round k now : ℕ) (v : ShardVersion) (readings : List ShardVersion) (j second : ℕ) → In round now (reading readings k ≡ v) → Kept round k v (confirm n rounds known now readings j second)
confirm_keeps n rounds known round k now v readings j second h =
    by_test (λ b. Kept round k v (cond b (after_confirming n known now readings (j + 1)) (after_disturbance rounds now j (reading readings j).revision second))) ((reading readings j).revision == second)
    (λ _. confirmed_keeps n known round k now v readings (j + 1) h) (λ _. disturbed_keeps rounds round k now v j (reading readings j).revision second (not_before round now (reading readings k ≡ v) h))

turn_keeps : (n rounds : ℕ) (s : ℕ → ShardVersion) (op : Op) (round k : ℕ) (v : ShardVersion) (phase : Phase) → Kept round k v phase → Kept round k v (turn n rounds s op phase).phase
turn_keeps n rounds s op round k v Idle h = tt
turn_keeps n rounds s op round k v (Waiting i) h = tt
turn_keeps n rounds s op round k v (Collecting now readings) h =
    let x = s (length readings) in
    collected_keeps n round k now v (readings ++ x ∷ [])
    (⊎_elim inl (λ (p : (now ≡ round) × ((k < length readings) × (reading readings k ≡ v))). inr (p.0, (omega (arith, length-append {A = ShardVersion}, p.1.0), get_or-append readings (x ∷ []) fresh_shard k p.1.0 ∙ p.1.1))) h)
turn_keeps n rounds s op round k v (Confirming now readings j) h = confirm_keeps n rounds (known_of op) round k now v readings j (s j).revision h
turn_keeps n rounds s op round k v (Done reply) h = tt

-- along events that begin nothing of the caller: one that it asks to begin while it is not idle does not fit
module _ (n rounds round k : ℕ) (v : ShardVersion) (c : ℕ) where
  moved_keeps : (w : World) (other : ℕ) (t : Turn) → (other ≡ c → Kept round k v t.phase) → Kept round k v (w.phases c) → Kept round k v ((after_turn w other t).phases c)
  moved_keeps w other t own h =
      by_number (λ b. Kept round k v (cond b t.phase (w.phases c))) c other (λ is. own (sym is)) (λ _. h)

  step_keeps : (w : World) (other : ℕ) → Kept round k v (w.phases c) → Kept round k v ((next n rounds w (Step other)).phases c)
  step_keeps w other h =
      by_test (λ b. Kept round k v ((let x : World = cond b (after_turn w other (turn n rounds w.shards (w.ops other) (w.phases other))) w in x).phases c)) (is_open (w.phases other))
      (λ _. moved_keeps w other (turn n rounds w.shards (w.ops other) (w.phases other)) (λ is. subst (λ (x : ℕ). Kept round k v (turn n rounds w.shards (w.ops x) (w.phases x)).phase) (sym is) (turn_keeps n rounds w.shards (w.ops c) round k v (w.phases c) h)) h)
      (λ _. h)

  idle_keeps : (b : Bool) (w : World) (other : ℕ) → Kept round k v (w.phases c) → Kept round k v ((let x : World = cond b (after_turn w other (to_phase w Idle)) w in x).phases c)
  idle_keeps true w other h = moved_keeps w other (to_phase w Idle) (λ is. tt) h
  idle_keeps false w other h = h

  begin_keeps : (b : Bool) (w : World) (other : ℕ) (op : Op) (phase : Phase) → (other ≡ c → b ≡ false) → Kept round k v (w.phases c) → Kept round k v ((let x : World = cond b (with_operation w other op phase) w in x).phases c)
  begin_keeps true w other op phase not h = moved_keeps w other (to_phase w phase) (λ is. let never : true ≡ false = not is in cc) h
  begin_keeps false w other op phase not h = h

  events_keep : (events : List Event) (w : World) → BeginsNothing n rounds w c events → Kept round k v (w.phases c) → Kept round k v ((world_from n rounds w events).phases c)
  events_keep [] w b h = h
  events_keep (Begin other op ∷ events) w b h = events_keep events (next n rounds w (Begin other op)) b.1 (begin_keeps (is_idle (w.phases other)) w other op (start_phase n op) (λ is. subst (λ (x : ℕ). is_idle (w.phases x) ≡ false) (sym is) (b.0 is)) h)
  events_keep (Step other ∷ events) w b h = events_keep events (next n rounds w (Step other)) b (step_keeps w other h)
  events_keep (Quit other reason ∷ events) w b h = events_keep events (next n rounds w (Quit other reason)) b (idle_keeps (is_open (w.phases other)) w other h)
  events_keep (End other ∷ events) w b h = events_keep events (next n rounds w (End other)) b (idle_keeps (is_done (w.phases other)) w other h)

-- the reading
read_now : (n rounds : ℕ) (w : World) (c round : ℕ) (readings : List ShardVersion) → w.phases c ≡ Collecting round readings → Kept round (length readings) (w.shards (length readings)) ((next n rounds w (Step c)).phases c)
read_now n rounds w c round readings is =
    let x = w.shards (length readings) in
    let here : Kept round (length readings) x (turn n rounds w.shards (w.ops c) (Collecting round readings)).phase =
    collected_keeps n round (length readings) round x (readings ++ x ∷ []) (inr (refl, (omega (arith, length-append {A = ShardVersion}), get_or-append_seam readings x [] fresh_shard))) in
    by_test (λ b. Kept round (length readings) x ((let y : World = cond b (after_turn w c (turn n rounds w.shards (w.ops c) (w.phases c))) w in y).phases c)) (is_open (w.phases c))
    (λ _. subst (λ (p : Phase). Kept round (length readings) x p) (sym (with_at_same w.phases c (turn n rounds w.shards (w.ops c) (w.phases c)).phase c refl)) (subst (λ (p : Phase). Kept round (length readings) x (turn n rounds w.shards (w.ops c) p).phase) (sym is) here))
    (λ shut. let never : true ≡ false = ap is_open (sym is) ∙ shut in cc)

joined : (n rounds : ℕ) (before after : List Event) (w : World) → world_from n rounds w (before ++ after) ≡ world_from n rounds (world_from n rounds w before) after
joined n rounds [] after w = refl
joined n rounds (event ∷ before) after w = joined n rounds before after (next n rounds w event)

in_round : (round k : ℕ) (v : ShardVersion) (all : List ShardVersion) (j : ℕ) (phase : Phase) → phase ≡ Confirming round all j → Kept round k v phase → reading all k ≡ v
in_round round k v all j phase is h =
    ⊎_elim (λ (l : round < round). absurd (omega (arith, l))) (λ (p : (round ≡ round) × (reading all k ≡ v)). p.1) (let g : Kept round k v (Confirming round all j) = subst (Kept round k v) is h in g)

step_shard : (n rounds : ℕ) (w : World) (c round : ℕ) (readings : List ShardVersion) → w.phases c ≡ Collecting round readings → (next n rounds w (Step c)).shards ≡ w.shards
step_shard n rounds w c round readings is =
    by_test (λ b. (let y : World = cond b (after_turn w c (turn n rounds w.shards (w.ops c) (w.phases c))) w in y).shards ≡ w.shards) (is_open (w.phases c))
    (λ _. ap (λ (p : Phase). (turn n rounds w.shards (w.ops c) p).shards) is) (λ _. refl)

pub confirmed_stood : (n rounds : ℕ) (start : World) (c round : ℕ) (readings all : List ShardVersion) (before after : List Event) →
    let shard = length readings in
    let read = next n rounds start (Step c) in
    let middle = world_from n rounds read before in
    let later = world_from n rounds middle after in
    start.phases c ≡ Collecting round readings → BeginsNothing n rounds read c (before ++ after) → later.phases c ≡ Confirming round all shard
    → (reading all shard).revision ≡ (later.shards shard).revision → (middle.shards shard).part ≡ (reading all shard).part
confirmed_stood n rounds start c round readings all before after is nothing confirming same =
    let shard = length readings in
    let first = next n rounds start (Step c) in
    let kept = events_keep n rounds round shard (start.shards shard) c (before ++ after) first nothing (read_now n rounds start c round readings is) in
    let kept_later = subst (λ (w : World). Kept round shard (start.shards shard) (w.phases c)) (joined n rounds before after first) kept in
    let read : reading all shard ≡ start.shards shard = in_round round shard (start.shards shard) all shard _ confirming kept_later in
    let at_first : first.shards shard ≡ start.shards shard = ap (λ f. f shard) (step_shard n rounds start c round readings is) in
    let alike = ap (λ (x : ShardVersion). x.revision) (at_first ∙ sym read) ∙ same in
    (holds_between n rounds first before after shard).1 alike ∙ ap (λ (x : ShardVersion). x.part) (at_first ∙ sym read)
