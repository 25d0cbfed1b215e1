-- What a round of a fetch-all has read, and what it says.
use Rattle.std.proofs.Common.{◌≡◌, ◌≢◌, ℕ, zero, suc, ◌+◌, ◌<◌, ◌≤◌, true≢false, length, get_or, List, [], ◌∷◌, ◌++◌, sym, ap, ◌∙◌, subst, append_assoc, length-append, arith}
use mathlib.Core.Logic.{dite}
use native.Mathlib.Decide.{ℕ_discrete}
use Rattle.std.proofs.lemmas.List.{append-nil}
use Rattle.std.specs.Arc.{arc_value}
use Rattle.std.specs.declared.sync.Arc.{Arc}
use Rattle.spiffe_doc.specs.Authority.{BundleValue}
use Rattle.map_core.specs.declared.op.Op.TheVariants.{FetchAll}
use Rattle.map_core.specs.declared.reply.Reply.TheVariants.{All}
use Rattle.map_core.specs.Name.{Name}
use Rattle.map_core.specs.PlainMap.{PlainMap, bundles, partition}
use Rattle.map_core.proofs.Asks.{fetch_all}
use Rattle.shard_store.specs.declared.change.Change.{Change}
use Rattle.shard_store.specs.declared.change.Seen.{Seen}
use Rattle.shard_store.specs.declared.fetch.Movement.{Movement}
use Rattle.shard_store.specs.Changes.{after, count, Extends}
use Rattle.shard_store.specs.Numbers.{IsPart}
use Rattle.shard_store.specs.Promise.{IsLater, IsAlone, HasMoved, IsReply}
use Rattle.shard_store.specs.Private.Readings.{WasRead, WereRead, AreConfirmed, IsMovement, IsSnapshot}
use Rattle.shard_store.proofs.Changes.{count_append, is_part_stays}
use Rattle.shard_store.proofs.Promise.{counts_more, later_then, extends_then, extends_since, alone_same}

pub read_now : {Z : Type 0} (n i : ℕ) (s t : Seen) (r : ℕ) (v : Arc PlainMap Z) → IsLater t s → count n t.log i ≡ r → IsPart n i t.log (arc_value v) → WasRead n i s.log t.log r v
read_now n i s t r v l e p = (t.log, [], sym (append-nil t.log), e, p, subst (λ (k : ℕ). count n s.log i ≤ k) e (counts_more n i s t.log l.0))

pub read_before : {Z : Type 0} (n i : ℕ) (from : List Change) (t u : Seen) (r : ℕ) (v : Arc PlainMap Z) → IsLater u t → WasRead n i from t.log r v → WasRead n i from u.log r v
read_before n i from t u r v l was = (was.0, was.1 ++ l.0.0, l.0.1 ∙ (ap (λ (x : List Change). x ++ l.0.0) was.2 ∙ append_assoc was.0 was.1 l.0.0), was.3, was.4, was.5)

push_two : {A B : Type 0} (P : ℕ → A → B → Type 0) (xs : List A) (ys : List B) (x a : A) (y : B) → length xs ≡ length ys → ((k : ℕ) (d : B) → k < length ys → P k (get_or xs k a) (get_or ys k d)) → P (length ys) x y
    → (k : ℕ) (d : B) → k < length (ys ++ y ∷ []) → P k (get_or (xs ++ x ∷ []) k a) (get_or (ys ++ y ∷ []) k d)
push_two P [] [] x a y e h p zero d l = p
push_two P [] [] x a y e h p (suc k) d l = absurd (omega arith)
push_two P [] (w ∷ ys) x a y e h p k d l = absurd (omega arith)
push_two P (z ∷ xs) [] x a y e h p k d l = absurd (omega arith)
push_two P (z ∷ xs) (w ∷ ys) x a y e h p zero d l = h zero d (omega arith)
push_two P (z ∷ xs) (w ∷ ys) x a y e h p (suc k) d l = push_two (λ j. P (suc j)) xs ys x a y (omega arith) (λ j c m. h (suc j) c (omega arith)) p k d (omega arith)

-- one reading more
pub read_more : {Z : Type 0} (n shard : ℕ) (from : List Change) (t u : Seen) (rs rs' : List ℕ) (vs vs' : List (Arc PlainMap Z)) (r : ℕ) (v : Arc PlainMap Z) → IsLater u t → rs' ≡ rs ++ r ∷ [] → vs' ≡ vs ++ v ∷ [] → length vs ≡ shard
    → WereRead n from t.log rs vs → WasRead n shard from u.log r v → WereRead n from u.log rs' vs'
read_more {Z} n shard from t u rs rs' vs vs' r v l e f count_is before now = subst (λ (z : List ℕ × List (Arc PlainMap Z)). WereRead n from u.log z.0 z.1) (λ j. (sym e j, sym f j)) (
  length-append rs (r ∷ []) ∙ (ap (λ (k : ℕ). k + 1) before.0 ∙ sym (length-append vs (v ∷ []))),
  push_two (λ k a b. WasRead n k from u.log a b) rs vs r 0 v before.0 (λ k d m. read_before n k from t u (get_or rs k 0) (get_or vs k d) l (before.1 k d m))
      (subst (λ (k : ℕ). WasRead n k from u.log r v) (sym count_is) now),
)

-- what was read is the part, if the shard has no more changes than its revision says
pub part_confirmed : {Z : Type 0} (n i : ℕ) (from log : List Change) (r : ℕ) (v : Arc PlainMap Z) → WasRead n i from log r v → count n log i ≤ r → IsPart n i log (arc_value v)
part_confirmed n i from log r v was most = let first : count n was.0 i ≡ r = was.3 in let total : count n log i ≡ count n was.0 i + count n was.1 i = ap (λ (x : List Change). count n x i) was.2 ∙ count_append n was.0 was.1 i in
    subst (λ (x : List Change). IsPart n i x (arc_value v)) (sym was.2) (is_part_stays n i was.0 was.1 (arc_value v) (omega arith) was.4)

-- a reading of one shard, if there is one
read_at : {Z : Type 0} (n : ℕ) (from log : List Change) (rs : List ℕ) (vs : List (Arc PlainMap Z)) (i : ℕ) → WereRead n from log rs vs → i < length vs → (v : Arc PlainMap Z) × WasRead n i from log (get_or rs i 0) v
read_at n from log rs [] i were inside = absurd (omega arith)
read_at n from log rs (v ∷ vs) i were inside = (get_or (v ∷ vs) i v, were.1 i v inside)

-- no shard has had fewer changes than its revision says, either
same_revision : {Z : Type 0} (n i : ℕ) (from log : List Change) (r : ℕ) (v : Arc PlainMap Z) → WasRead n i from log r v → count n log i ≤ r → count n log i ≡ r
same_revision n i from log r v was most = let first : count n was.0 i ≡ r = was.3 in let total : count n log i ≡ count n was.0 i + count n was.1 i = ap (λ (x : List Change). count n x i) was.2 ∙ count_append n was.0 was.1 i in
    omega arith

pub snapshot : {Z : Type 0} (n : ℕ) (s t u : Seen) (rs : List ℕ) (vs : List (Arc PlainMap Z)) → IsLater t s → IsLater u t → length vs ≡ n → WereRead n s.log t.log rs vs → AreConfirmed n t.log rs → IsSnapshot n s u rs vs
snapshot {Z} n s t u rs vs l m size were still = (
  t.log,
  l.0,
  subst (λ (r : List (ℕ × ℕ)). Extends u.log (record { log = t.log; ranges = r })) l.1 m.0,
  m.1 ∙ l.1,
  size,
  λ k d inside. let long : length rs ≡ length vs = were.0 in
      part_confirmed n k s.log t.log (get_or rs k 0) (get_or vs k d) (were.1 k d inside) (still k (omega arith)) ∙ ap (λ (j : ℕ). partition j (after t.log) k) (sym size),
  (
    were.0 ∙ size,
    λ k inside. let long : length rs ≡ length vs = were.0 in let within : k < length vs = omega arith in let was = read_at n s.log t.log rs vs k were within in
        same_revision n k s.log t.log (get_or rs k 0) was.0 was.1 (still k (omega arith)),
  ),
)

-- the shard that was found with another revision has moved
pub moved : {Z : Type 0} (n : ℕ) (s t u : Seen) (rs : List ℕ) (vs : List (Arc PlainMap Z)) (movement : Movement) → IsLater t s → IsLater u t → length vs ≡ n → WereRead n s.log t.log rs vs → IsMovement n t.log u.log rs movement
    → IsLater u s × (movement.shard < n) × HasMoved n s u movement.shard movement.first movement.second
moved {Z} n s t u rs vs movement l m size were g = let long : length rs ≡ length vs = were.0 in let here : movement.shard < length rs = g.0 in let was = (read_at n s.log t.log rs vs movement.shard were (omega arith)).1 in
    let first : movement.first ≡ get_or rs movement.shard 0 = g.1 in let seen : count n was.0 movement.shard ≡ get_or rs movement.shard 0 = was.3 in
    let total : count n t.log movement.shard ≡ count n was.0 movement.shard + count n was.1 movement.shard = ap (λ (x : List Change). count n x movement.shard) was.2 ∙ count_append n was.0 was.1 movement.shard in
    let least : count n s.log movement.shard ≤ get_or rs movement.shard 0 = was.5 in let other : movement.first ≢ movement.second = g.2 in let low : count n t.log movement.shard ≤ movement.second = g.3 in
    (later_then s t u l m, omega arith, (omega arith, less movement.first movement.second other (omega arith), g.4))
  where
    less : (a b : ℕ) → a ≢ b → a ≤ b → a < b
    less a b ne le = omega (arith, ne)

-- a pass that saw a shard move has seen a change more
pub longer : (n i a b : ℕ) (s t : Seen) → IsLater t s → HasMoved n s t i a b → length s.log + 1 ≤ length t.log
longer n i a b s t l m = let size : length t.log ≡ length s.log + length l.0.0 = ap (λ (x : List Change). length x) l.0.1 ∙ length-append s.log l.0.0 in
    let total : count n t.log i ≡ count n s.log i + count n l.0.0 i = ap (λ (x : List Change). count n x i) l.0.1 ∙ count_append n s.log l.0.0 i in
    let one : 1 ≤ length l.0.0 = some_new l.0.0 (let p = m.0 in let q = m.1 in let r = m.2 in omega arith) in omega arith
  where
    some_new : (new : List Change) → 0 < count n new i → 1 ≤ length new
    some_new [] h = absurd (omega arith)
    some_new (c ∷ cs) h = omega arith

pub moved_since : (n i a b : ℕ) (s t u : Seen) → IsLater t s → HasMoved n t u i a b → HasMoved n s u i a b
moved_since n i a b s t u l m = let more : count n s.log i ≤ count n t.log i = counts_more n i s t.log l.0 in let low = m.0 in (omega arith, m.1, m.2)

-- a pass that is alone sees no shard move
pub moved_not_alone : (n i a b : ℕ) (s t : Seen) → IsLater t s → HasMoved n s t i a b → ¬ IsAlone s
moved_not_alone n i a b s t l m alone = let same : count n t.log i ≡ count n s.log i = ap (λ (x : List Change). count n x i) (alone_same s t.log alone l.0) in
    let p = m.0 in let q = m.1 in let r = m.2 in let never : ⊥ = omega arith in never

pub later_snapshot : {Z : Type 0} (n : ℕ) (s t : Seen) (rs : List ℕ) (vs : List (Arc PlainMap Z)) → IsSnapshot n s t rs vs → IsLater t s
later_snapshot n s t rs vs x = (extends_then s x.0 t.log x.1 x.2, x.3)

pub snapshot_since : {Z : Type 0} (n : ℕ) (s t u : Seen) (rs : List ℕ) (vs : List (Arc PlainMap Z)) → IsLater t s → IsSnapshot n t u rs vs → IsSnapshot n s u rs vs
snapshot_since n s t u rs vs l x = (x.0, extends_since s t x.0 l x.1, subst (λ (r : List (ℕ × ℕ)). Extends u.log (record { log = x.0; ranges = r })) l.1 x.2, x.3 ∙ l.1, x.4, x.5, x.6)

-- all bundles of the map after a list are the answer to a fetch-all
pub all_answered : (s t : Seen) (list : List Change) (all : List (Name × BundleValue)) → Extends list s → Extends t.log (record { log = list; ranges = s.ranges }) → t.ranges ≡ s.ranges → all ≡ bundles (after list) → IsReply FetchAll s (All all) t
all_answered s t list all before since ranges is = (
  list,
  before,
  ap All is ∙ sym (fetch_all (after list)),
  ranges,
  (λ write. absurd (true≢false (sym write))),
  λ _. since,
)

-- one shard more has no more changes than its revision says
pub still_more : (n i : ℕ) (s u : Seen) (rs : List ℕ) → IsLater u s → count n u.log i ≡ get_or rs i 0 → ((k : ℕ) → k < i → count n s.log k ≤ get_or rs k 0) → (k : ℕ) → k < i + 1 → count n s.log k ≤ get_or rs k 0
still_more n i s u rs l e before k m = dite (ℕ_discrete k i)
    (λ same. subst (λ (j : ℕ). count n s.log j ≤ get_or rs j 0) (sym same) (subst (λ (j : ℕ). count n s.log i ≤ j) e (counts_more n i s u.log l.0)))
    (λ other. before k (omega arith))
