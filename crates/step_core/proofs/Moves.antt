-- What the step of an operation may do, and that each step of the machine does no more.
use Rattle.std.proofs.Common.{◌≡◌, ℕ, ◌+◌, ◌<◌, ◌==◌, Bool, true, false, cond, List, [], ◌∷◌, ◌++◌, length, Some, None, Result, Ok, Err, arith, length-append, refl, sym, subst, inl}
use Rattle.map_core.specs.declared.op.Op.{Op}
use Rattle.map_core.specs.declared.reply.AskError.{AskError}
use Rattle.map_core.specs.declared.reply.AskError.TheVariants.{Worn, Moved}
use Rattle.map_core.specs.declared.reply.Reply.{Reply}
use Rattle.map_core.specs.Reply.{is_change}
use Rattle.map_core.specs.PlainMap.{PlainMap, AskResult, ask, shard_of}
use Rattle.map_core.proofs.MapLaws.{fetch_keeps}
use Rattle.map_core.specs.Op.{known_of}
use Rattle.step_core.specs.World.{with_at, Turn, turn}
use Rattle.step_core.specs.Shard.{ShardVersion, reading, last_revision, StepResult, step_on, of_shard}
use Rattle.step_core.specs.Phase.{Phase, Idle, Waiting, Collecting, Confirming, Done, after_reading, after_confirming, snapshot_reply, after_disturbance, confirm, is_open, has_point}
use Rattle.step_core.proofs.Points.{by_test, by_number}
use Rattle.step_core.proofs.Claims.{Advance, Seen, Claim, ReadSoFar, IsPhaseOf, Shows, still_claim, still_shows, changed_advance, changed_shows, put_back, read_more, read_all, sure_more, all_sure}

-- what becomes of the point, by whether the operation had one and has one then
abbrev pub PointMove : Bool → Bool → ℕ → (ℕ → ShardVersion) → Op → Phase → Turn → Type 0
PointMove false false n s op old t = (m : PlainMap) → Shows n s m → Shows n t.shards m
PointMove false true n s op old t = (m : PlainMap) → Shows n s m → Claim n t.shards m op t.phase × Shows n t.shards (ask m op).map
PointMove true false n s op old t = (shard_of n op ≡ None) × ((m : PlainMap) → Shows n s m → Shows n t.shards m)
PointMove true true n s op old t = ((m : PlainMap) → Claim n s m op old → Claim n t.shards m op t.phase) × ((m : PlainMap) → Shows n s m → Shows n t.shards m)

pub record Move (n : ℕ) (s : ℕ → ShardVersion) (op : Op) (old : Phase) (t : Turn) : Type 0 where
  pub advance : (j : ℕ) → Advance (s j) (t.shards j)
  pub ok : IsPhaseOf n t.shards op t.phase
  pub point : PointMove (has_point old) (has_point t.phase) n s op old t

abbrev to : (ℕ → ShardVersion) → Phase → Turn
to s phase = record { shards = s; phase = phase }

-- a step that leaves the shards
stay : (s : ℕ → ShardVersion) (j : ℕ) → Advance (s j) (s j)
stay s j = inl refl

-- ---- an operation on one name
abbrev stepped : (ℕ → ShardVersion) → ℕ → StepResult → Turn
stepped s i st = to (with_at s i st.shard) (Done (of_shard i st.answer))

shard_kept : (n : ℕ) (s : ℕ → ShardVersion) (op : Op) (i : ℕ) (reply : Result Reply AskError) → Move n s op (Waiting i) (to s (Done reply)) → Move n s op (Waiting i) (to (with_at s i (s i)) (Done reply))
shard_kept n s op i reply h = subst (λ (t : ℕ → ShardVersion). Move n s op (Waiting i) (to t (Done reply))) (sym (put_back s i)) h

shard_asked : (n : ℕ) (s : ℕ → ShardVersion) (op : Op) (i : ℕ) → shard_of n op ≡ Some i → Move n s op (Waiting i) (stepped s i (step_on (s i) op))
shard_asked n s op i at =
    let asked : AskResult = ask (s i).part op in
    let written : ShardVersion = record { revision = (s i).revision + 1; part = asked.map } in
    let worn : StepResult = record { answer = Err (Worn 0); shard = s i } in
    by_test (λ b. Move n s op (Waiting i) (stepped s i (cond b (cond ((s i).revision == last_revision) worn (record { answer = Ok asked.reply; shard = written })) (record { answer = Ok asked.reply; shard = s i })))) (is_change asked.reply)
    (λ _. by_test (λ b. Move n s op (Waiting i) (stepped s i (cond b worn (record { answer = Ok asked.reply; shard = written })))) ((s i).revision == last_revision)
    (λ _. shard_kept n s op i (Err (Worn i)) (record { advance = stay s; ok = tt; point = λ m shows. shows }))
    (λ _. record { advance = changed_advance s op i; ok = tt; point = λ m shows. (still_claim n s m op i at shows, changed_shows n s m op i at shows) }))
    (λ quiet. shard_kept n s op i (Ok asked.reply) (record { advance = stay s; ok = tt; point = λ m shows. (still_claim n s m op i at shows, still_shows n s m op i at shows quiet) }))

-- ---- a fetch-all
collects : (n : ℕ) (s : ℕ → ShardVersion) (op : Op) (round : ℕ) (readings : List ShardVersion) → 0 < n → shard_of n op ≡ None → length readings < n → ReadSoFar s readings
    → Move n s op (Collecting round readings) (to s (after_reading n round (readings ++ s (length readings) ∷ [])))
collects n s op round readings h none small sofar =
    let now = readings ++ s (length readings) ∷ [] in
    let read = read_more s readings sofar in
    by_number (λ b. Move n s op (Collecting round readings) (to s (cond b (Confirming round now 0) (Collecting round now)))) (length now) n
    (λ is. record { advance = stay s; ok = (none, h); point = λ m shows. (read_all n s m now is read shows, subst (Shows n s) (sym (fetch_keeps n m op none)) shows) })
    (λ ne. record { advance = stay s; ok = (none, omega (arith, length-append {A = ShardVersion}, small, ne), read); point = λ m shows. shows })

confirms : (n : ℕ) (s : ℕ → ShardVersion) (op : Op) (round : ℕ) (readings : List ShardVersion) (k : ℕ) → 0 < n → shard_of n op ≡ None → k < n → (reading readings k).revision ≡ (s k).revision
    → Move n s op (Confirming round readings k) (to s (after_confirming n (known_of op) round readings (k + 1)))
confirms n s op round readings k h none small is =
    by_number (λ b. Move n s op (Confirming round readings k) (to s (cond b (Done (Ok (snapshot_reply n (known_of op) readings))) (Confirming round readings (k + 1))))) (k + 1) n
    (λ full. record {
      advance = stay s;
      ok = tt;
      point = (λ m claim. all_sure n s readings m op h none (subst (λ (x : ℕ). (j : ℕ) → j < n → Seen n x s readings m j) full (sure_more n k s readings m small is claim)), λ m shows. shows);
    })
    (λ ne. record { advance = stay s; ok = (none, omega (arith, small, ne)); point = (λ m claim. sure_more n k s readings m small is claim, λ m shows. shows) })

disturbs : (n rounds : ℕ) (s : ℕ → ShardVersion) (op : Op) (round : ℕ) (readings : List ShardVersion) (k first second : ℕ) → 0 < n → shard_of n op ≡ None
    → Move n s op (Confirming round readings k) (to s (after_disturbance rounds round k first second))
disturbs n rounds s op round readings k first second h none =
    by_test (λ b. Move n s op (Confirming round readings k) (to s (cond b (Done (Err (Moved k first second))) (Collecting (round + 1) [])))) (round == rounds)
    (λ _. record { advance = stay s; ok = tt; point = (none, λ m shows. shows) })
    (λ _. record { advance = stay s; ok = (none, h, λ j l. absurd (omega (arith, l))); point = (none, λ m shows. shows) })

compares : (n rounds : ℕ) (s : ℕ → ShardVersion) (op : Op) (round : ℕ) (readings : List ShardVersion) (k : ℕ) → 0 < n → shard_of n op ≡ None → k < n
    → Move n s op (Confirming round readings k) (to s (confirm n rounds (known_of op) round readings k (s k).revision))
compares n rounds s op round readings k h none small =
    let read = (reading readings k).revision in
    let now = (s k).revision in
    by_number (λ b. Move n s op (Confirming round readings k) (to s (cond b (after_confirming n (known_of op) round readings (k + 1)) (after_disturbance rounds round k read now)))) read now
    (confirms n s op round readings k h none small) (λ _. disturbs n rounds s op round readings k read now h none)

-- each step of the machine is such a move
pub turn_moves : (n rounds : ℕ) (s : ℕ → ShardVersion) (op : Op) (phase : Phase) → 0 < n → is_open phase ≡ true → IsPhaseOf n s op phase → Move n s op phase (turn n rounds s op phase)
turn_moves n rounds s op Idle h opened ok = absurd ok
turn_moves n rounds s op (Waiting i) h opened ok = shard_asked n s op i ok
turn_moves n rounds s op (Collecting round readings) h opened ok = collects n s op round readings h ok.0 ok.1 ok.2
turn_moves n rounds s op (Confirming round readings k) h opened ok = compares n rounds s op round readings k h ok.0 ok.1
turn_moves n rounds s op (Done reply) h opened ok = cc

-- to give up is one, too
pub give_up_moves : (n : ℕ) (s : ℕ → ShardVersion) (op : Op) (why : AskError) (phase : Phase) → is_open phase ≡ true → IsPhaseOf n s op phase → Move n s op phase (to s (Done (Err why)))
give_up_moves n s op why Idle opened ok = absurd ok
give_up_moves n s op why (Waiting i) opened ok = record { advance = stay s; ok = tt; point = λ m shows. shows }
give_up_moves n s op why (Collecting round readings) opened ok = record { advance = stay s; ok = tt; point = λ m shows. shows }
give_up_moves n s op why (Confirming round readings k) opened ok = record { advance = stay s; ok = tt; point = (ok.0, λ m shows. shows) }
give_up_moves n s op why (Done reply) opened ok = cc
