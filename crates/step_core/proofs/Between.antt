-- A revision that is the same at two moments stands for one part between them.
use Rattle.std.proofs.Common.{◌≡◌, ℕ, ◌≤◌, true, false, cond, List, [], ◌∷◌, inl, ⊎_elim, arith, refl, sym, subst}
use Rattle.map_core.specs.declared.op.Op.{Op}
use Rattle.step_core.specs.declared.event.Event.{Event}
use Rattle.step_core.specs.declared.event.Event.TheVariants.{Begin, Step, Quit, End}
use Rattle.step_core.specs.World.{with_at, World, turn, next, after_turn, with_operation, to_phase, world_from}
use Rattle.step_core.specs.Shard.{ShardVersion, step_on}
use Rattle.step_core.specs.Phase.{Phase, Idle, Waiting, Collecting, Confirming, Done, start_phase, is_idle, is_open, is_done}
use Rattle.step_core.proofs.Points.{by_number}
use Rattle.step_core.proofs.Claims.{Advance, Fresh}

Advances : (ℕ → ShardVersion) → (ℕ → ShardVersion) → Type 0
Advances s t = (j : ℕ) → Advance (s j) (t j)

stay : (s : ℕ → ShardVersion) → Advances s s
unfolding Advances
stay s j = inl refl

-- the shard after a step of its own is as it was, or was changed
step_advance : (v : ShardVersion) (op : Op) → Advance v (step_on v op).shard
step_advance v op = grind arith

stepped_advances : (s : ℕ → ShardVersion) (i : ℕ) (t : ShardVersion) → Advance (s i) t → Advances s (with_at s i t)
unfolding Advances
stepped_advances s i t h j =
    by_number (λ b. Advance (s j) (cond b t (s j))) j i (λ is. subst (λ (k : ℕ). Advance (s k) t) (sym is) h) (λ _. inl refl)

turn_advances : (n rounds : ℕ) (s : ℕ → ShardVersion) (op : Op) (phase : Phase) → Advances s (turn n rounds s op phase).shards
turn_advances n rounds s op Idle = stay s
turn_advances n rounds s op (Waiting i) = stepped_advances s i (step_on (s i) op).shard (step_advance (s i) op)
turn_advances n rounds s op (Collecting round readings) = stay s
turn_advances n rounds s op (Confirming round readings k) = stay s
turn_advances n rounds s op (Done reply) = stay s

next_advances : (n rounds : ℕ) (w : World) (event : Event) → Advances w.shards (next n rounds w event).shards
next_advances n rounds w (Begin c op) = elim (is_idle (w.phases c)) as (λ b. Advances w.shards (let x : World = cond b (with_operation w c op (start_phase n op)) w in x).shards) [ true ↦ stay w.shards | false ↦ stay w.shards ]
next_advances n rounds w (Step c) = elim (is_open (w.phases c)) as (λ b. Advances w.shards (let x : World = cond b (after_turn w c (turn n rounds w.shards (w.ops c) (w.phases c))) w in x).shards) [ true ↦ turn_advances n rounds w.shards (w.ops c) (w.phases c) | false ↦ stay w.shards ]
next_advances n rounds w (Quit c reason) = elim (is_open (w.phases c)) as (λ b. Advances w.shards (let x : World = cond b (after_turn w c (to_phase w Idle)) w in x).shards) [ true ↦ stay w.shards | false ↦ stay w.shards ]
next_advances n rounds w (End c) = elim (is_done (w.phases c)) as (λ b. Advances w.shards (let x : World = cond b (after_turn w c (to_phase w Idle)) w in x).shards) [ true ↦ stay w.shards | false ↦ stay w.shards ]

reached : (s t u : ShardVersion) → Advance s t → Fresh t u u.part → Fresh s u u.part
reached s t u go h =
    ⊎_elim (λ e. subst (λ (x : ShardVersion). Fresh x u u.part) e h)
    (λ l. record { grown = omega (arith, l, h.grown); same = λ is. absurd (omega (arith, l, h.grown, is)) }) go

pub reaches : (n rounds : ℕ) (events : List Event) (w : World) (j : ℕ) → let v = (world_from n rounds w events).shards j in Fresh (w.shards j) v v.part
unfolding Advances
reaches n rounds [] w j = record { grown = omega arith; same = λ _. refl }
reaches n rounds (event ∷ events) w j =
    reached (w.shards j) ((next n rounds w event).shards j) ((world_from n rounds (next n rounds w event) events).shards j) (next_advances n rounds w event j) (reaches n rounds events (next n rounds w event) j)

pub holds_between : (n rounds : ℕ) (start : World) (before after : List Event) (shard : ℕ) →
    let middle = world_from n rounds start before in
    let later = world_from n rounds middle after in
    ((start.shards shard).revision ≤ (later.shards shard).revision)
    × ((start.shards shard).revision ≡ (later.shards shard).revision → (middle.shards shard).part ≡ (start.shards shard).part)
holds_between n rounds start before after shard =
    let middle = world_from n rounds start before in
    let later = world_from n rounds middle after in
    let one = reaches n rounds before start shard in
    let two = reaches n rounds after middle shard in
    (omega (arith, one.grown, two.grown), λ is. sym (one.same (omega (arith, one.grown, two.grown, is))))
