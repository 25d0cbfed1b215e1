-- What a pass knows once a step has joined it the list.
use Rattle.std.proofs.Common.{◌≡◌, ◌≢◌, ℕ, ◌+◌, ◌*◌, ◌/◌, ◌%◌, ◌<◌, ◌≤◌, true, false, true≢false, List, [], ◌∷◌, ◌++◌, Option, Some, None, sym, refl, ap, ◌∙◌, subst, inl, arith, append_assoc}
use Rattle.std.specs.Prelude.{MatchOption, MatchResult, Result, Ok, Err}
use Rattle.std.specs.Result.{IsErrAnd}
use Rattle.std.specs.Arc.{arc_value}
use Rattle.std.specs.declared.sync.Arc.{Arc}
use mathlib.Core.Logic.{dite}
use native.Mathlib.Decide.{ℕ_discrete}
use Rattle.std.proofs.lemmas.List.{append-nil}
use Rattle.atomic_table.specs.Table.{Me, rest}
use Rattle.atomic_table.specs.Seated.{TableId}
use Rattle.atomic_table.specs.declared.shared.Seat.{Seat}
use Rattle.map_core.specs.declared.op.Op.{Op}
use Rattle.map_core.specs.declared.op.Op.TheVariants.{FetchAll}
use Rattle.map_core.specs.declared.reply.Reply.{Reply}
use Rattle.map_core.specs.declared.reply.AskError.{AskError}
use Rattle.map_core.specs.declared.reply.AskError.TheVariants.{Memory, Worn, Moved, Held, GateShut}
use Rattle.map_core.specs.Reply.{is_change}
use Rattle.map_core.specs.PlainMap.{PlainMap, ask, shard_of}
use Rattle.map_core.proofs.MapLaws.{part_reply}
use Rattle.shard_store.specs.declared.change.Change.{Change}
use Rattle.shard_store.specs.declared.change.Seen.{Seen}
use Rattle.shard_store.specs.declared.change.View.{View}
use Rattle.shard_store.specs.declared.holds.Hold.{Hold}
use Rattle.shard_store.specs.Changes.{after, change_of, count, HasNumber, Extends, own_count, own_number}
use Rattle.shard_store.specs.Numbers.{IsPart}
use Rattle.shard_store.specs.Rule.{numbers_of_joined, numbers, SlotValue}
use Rattle.shard_store.specs.Steps.{view_after, Sees, HasAllNumbers}
use Rattle.shard_store.specs.Promise.{IsLater, IsAlone, Concerns, IsReply, IsRefusedAt, IsRefused}
use Rattle.shard_store.specs.Pass.{StoreView}
use Rattle.shard_store.specs.Private.Seat.{IsIdle, IsWordOf, HasInHand, Holds, Missed, Writes, change_by}
use Rattle.shard_store.proofs.Changes.{count_append, none_by_others, others_append, has_number_left, is_part_stays, is_part_of_change, same_change, part_written, home_named}

pub own_ranges : (v : View) → v.joined ≡ [] → numbers v ≡ v.seen.ranges
own_ranges v e = ap (λ (t : List Seen). v.seen.ranges ++ numbers_of_joined t) e ∙ append-nil v.seen.ranges

pub all_alone : (v : View) → v.joined ≡ [] → IsAlone v.seen → HasAllNumbers v
all_alone v e alone k l = subst (λ (r : List (ℕ × ℕ)). HasNumber r k) (sym (own_ranges v e)) (alone k l)

pub later_updated : (v : View) (list : List Change) (held : Option ℕ) → v.joined ≡ [] → Sees v list → IsLater (view_after list v held).seen v.seen
later_updated v list held e g = (g.0, own_ranges v e)

-- who is alone has seen all
pub alone_same : (s : Seen) (list : List Change) → IsAlone s → Extends list s → list ≡ s.log
alone_same s list alone g = g.1 ∙ (ap (λ (l : List Change). s.log ++ l) (none_by_others s.ranges g.0 alone g.2) ∙ append-nil s.log)

has_first_number : (rs : List (ℕ × ℕ)) → 0 < own_count rs → HasNumber rs (own_number rs)
has_first_number [] l = absurd (omega arith)
has_first_number (r ∷ rs) l = let a : ℕ = r.0 in let b : ℕ = r.1 in let l' : 0 < b = l in let le : a ≤ a = omega arith in let lt : a < a + b = omega arith in inl (le, lt)

pub has_own_number : (v : View) → 0 < own_count v.seen.ranges → HasNumber (numbers v) (own_number v.seen.ranges)
has_own_number v l = has_number_left v.seen.ranges (numbers_of_joined v.joined) (own_number v.seen.ranges) (has_first_number v.seen.ranges l)

pub someone : (v : View) → 0 < own_count v.seen.ranges → (k : ℕ) × HasNumber (numbers v) k
someone v l = (own_number v.seen.ranges, has_own_number v l)

pub counts_more : (n i : ℕ) (s : Seen) (list : List Change) → Extends list s → count n s.log i ≤ count n list i
counts_more n i s list g = let total : count n list i ≡ count n s.log i + count n g.0 i = ap (λ (l : List Change). count n l i) g.1 ∙ count_append n s.log g.0 i in omega arith

pub none_between : (n i : ℕ) (s : Seen) (list : List Change) (g : Extends list s) → count n list i ≡ count n s.log i → count n g.0 i ≡ 0
none_between n i s list g e = let total : count n list i ≡ count n s.log i + count n g.0 i = ap (λ (l : List Change). count n l i) g.1 ∙ count_append n s.log g.0 i in omega arith

-- more after more
pub extends_then : (s : Seen) (list more : List Change) → Extends list s → Extends more (record s { log = list }) → Extends more s
extends_then s list more g h = (g.0 ++ h.0, h.1 ∙ (ap (λ (l : List Change). l ++ h.0) g.1 ∙ append_assoc s.log g.0 h.0), others_append s.ranges g.0 h.0 g.2 h.2)

pub extends_since : (s t : Seen) (list : List Change) → IsLater t s → Extends list t → Extends list s
extends_since s t list l g = extends_then s t.log list l.0 (subst (λ (r : List (ℕ × ℕ)). Extends list (record { log = t.log; ranges = r })) l.1 g)

pub later_then : (s t u : Seen) → IsLater t s → IsLater u t → IsLater u s
later_then s t u p q = (extends_since s t u.log p q.0, q.1 ∙ p.1)

pub later_same : (s t u : Seen) → IsLater t s → u ≡ t → IsLater u s
later_same s t u l same = subst (λ (x : Seen). IsLater x s) (sym same) l

pub later_self : (s : Seen) → IsLater s s
later_self s = (([], sym (append-nil s.log), tt), refl)

pub seen_as : (s t : Seen) → t ≡ s → IsLater t s
seen_as s t e = later_same s s t (later_self s) e

pub alone_later : (s t : Seen) → IsLater t s → IsAlone s → IsAlone t
alone_later s t l alone k h = subst (λ (r : List (ℕ × ℕ)). HasNumber r k) (sym l.1) (alone k h)

-- a word that is twice the count is found unless another came between
pub missed_alone : (word found a b : ℕ) → word ≡ 2 * a → found / 2 ≡ b → found % 2 ≡ 0 → b ≡ a → found ≡ word
missed_alone word found a b p q r s = omega arith

pub even_unless : (n : ℕ) → (n % 2 ≡ 1 → ⊥) → n % 2 ≡ 0
even_unless n h = dite (ℕ_discrete (n % 2) 0) (λ e. e) (λ ne. absurd (h (omega arith)))

-- a miss, if others made changes or have the shard
pub missed : (n i word found : ℕ) (s t : Seen) → IsLater t s → found / 2 ≡ count n t.log i → word ≡ 2 * count n s.log i → found ≢ word
    → (IsAlone s → found % 2 ≡ 0) → Missed n i s found t
missed n i word found s t l counted is miss even = (
  (λ alone. miss (missed_alone word found (count n s.log i) (count n t.log i) is counted (even alone) (ap (λ (x : List Change). count n x i) (alone_same s t.log alone l.0)))),
  counted,
)

updated_own : (v : View) (list : List Change) (held : Option ℕ) → v.joined ≡ [] → 0 < own_count v.seen.ranges → 0 < own_count (view_after list v held).seen.ranges
updated_own v list held e l = subst (λ (r : List (ℕ × ℕ)). 0 < own_count r) (sym (own_ranges v e)) l

-- the same at slots that another equation names
pub at_slots : (f : TableId → Type 0) (a b : TableId) → a ≡ b → f b → f a
at_slots f a b e p = subst f (sym e) p

pub missed_seat : {Z : Type 0} (n i word found : ℕ) (m m' : Me (SlotValue Z) View) (list : List Change) → IsIdle m → Sees m.0 list → found / 2 ≡ count n list i → word ≡ 2 * count n m.0.seen.log i → found ≢ word
    → (HasAllNumbers m.0 → found % 2 ≡ 0) → m' ≡ (view_after list m.0 None, m.1) → IsIdle m' × Missed n i m.0.seen found m'.0.seen
missed_seat {Z} n i word found m m' list idle g counted is miss even e = subst (λ (x : Me (SlotValue Z) View). IsIdle x × Missed n i m.0.seen found x.0.seen) (sym e) (
  (idle.0, refl, refl, updated_own m.0 list None idle.1 idle.3),
  missed n i word found m.0.seen (view_after list m.0 None).seen (later_updated m.0 list None idle.1 g) counted is miss (λ alone. even (all_alone m.0 idle.1 alone)),
)

pub hand_rest : {S : Type 0} (c : List (ℕ × S)) (x : ℕ × S) → c ≡ x ∷ [] → c ≡ x ∷ rest c
hand_rest {S} c x e = e ∙ ap (λ (l : List (ℕ × S)). x ∷ rest l) (sym e)

pub bare : {S : Type 0} (c : List (ℕ × S)) (x : ℕ × S) → c ≡ x ∷ [] → rest c ≡ []
bare c x e = ap rest e

pub missed_then : (n i found : ℕ) (s t u : Seen) → IsLater t s → Missed n i t found u → Missed n i s found u
missed_then n i found s t u l m = ((λ alone. m.0 (alone_later s t l alone)), m.1)

-- if the shard has no new change, what was the part is
pub part_since : (n i : ℕ) (s : Seen) (list : List Change) (contents : PlainMap) → Extends list s → count n list i ≡ count n s.log i → IsPart n i s.log contents → IsPart n i list contents
part_since n i s list contents g e p = subst (λ (l : List Change). IsPart n i l contents) (sym g.1) (is_part_stays n i s.log g.0 contents (none_between n i s list g e) p)

-- and an operation makes the change that it would have made
pub change_kept : (n i : ℕ) (op : Op) (s : Seen) (list : List Change) (number : ℕ) → shard_of n op ≡ Some i → Extends list s → count n list i ≡ count n s.log i → change_of op list number ≡ change_of op s.log number
change_kept n i op s list number at g e = ap (λ (l : List Change). change_of op l number) g.1 ∙ same_change n i op s.log g.0 number at (none_between n i s list g e)

pub change_later : (n i : ℕ) (op : Op) (s t : Seen) → shard_of n op ≡ Some i → IsLater t s → count n t.log i ≡ count n s.log i → change_by op t ≡ change_by op s
change_later n i op s t at l e = ap (λ (r : List (ℕ × ℕ)). change_of op t.log (own_number r)) l.1 ∙ change_kept n i op s t.log (own_number s.ranges) at l.0 e

pub change_since : (n i : ℕ) (op : Op) (s t : Seen) (contents : PlainMap) → shard_of n op ≡ Some i → IsLater t s → count n t.log i ≡ count n s.log i → IsPart n i (s.log ++ change_by op s ∷ []) contents
    → IsPart n i (t.log ++ change_by op t ∷ []) contents
change_since n i op s t contents at l e p = subst (λ (c : Change). IsPart n i (t.log ++ c ∷ []) contents) (sym (change_later n i op s t at l e))
    (subst (λ (log : List Change). IsPart n i (log ++ change_by op s ∷ []) contents) (sym l.0.1)
    (is_part_of_change n i s.log l.0.0 (change_by op s) contents (home_named n i op at) (none_between n i s t.log l.0 e) p))

pub writes_since : (n i : ℕ) (op : Op) (s t u : Seen) → shard_of n op ≡ Some i → IsLater t s → count n t.log i ≡ count n s.log i → Writes n i op t u → Writes n i op s u
writes_since n i op s t u at l e w = (w.0, extends_since s t w.0 l w.1, w.2 ∙ e, w.3 ∙ ap (λ (c : Change). w.0 ++ c ∷ []) (change_later n i op s t at l e), w.4 ∙ l.1)

pub reply_of_part : (n i : ℕ) (op : Op) (log : List Change) (contents : PlainMap) → shard_of n op ≡ Some i → IsPart n i log contents → (ask contents op).reply ≡ (ask (after log) op).reply
reply_of_part n i op log contents at p = ap (λ (m : PlainMap). (ask m op).reply) p ∙ part_reply n (after log) op i at

pub answered_by_write : (n i : ℕ) (op : Op) (s t u : Seen) (old : PlainMap) (reply : Reply) → shard_of n op ≡ Some i → IsLater t s → IsPart n i t.log old → reply ≡ (ask old op).reply
    → is_change reply ≡ true → Writes n i op t u → IsReply op s reply u
answered_by_write n i op s t u old reply at l p is write w = (
  w.0,
  extends_since s t w.0 l w.1,
  is ∙ reply_of_part n i op w.0 old at (part_since n i t w.0 old w.1 w.2 p),
  w.4 ∙ l.1,
  (λ _. w.3 ∙ ap (λ (c : Change). w.0 ++ c ∷ []) (sym (change_kept n i op t w.0 (own_number t.ranges) at w.1 w.2) ∙ ap (λ (r : List (ℕ × ℕ)). change_of op w.0 (own_number r)) l.1)),
  λ kept. absurd (true≢false (sym write ∙ kept)),
)

-- what the version says of an operation's change, the map says
pub changes_of_part : (n i : ℕ) (op : Op) (log : List Change) (contents : PlainMap) (reply : Reply) → shard_of n op ≡ Some i → IsPart n i log contents → reply ≡ (ask contents op).reply
    → is_change reply ≡ true → is_change (ask (after log) op).reply ≡ true
changes_of_part n i op log contents reply at p is write = ap (λ (r : Reply). is_change r) (sym (reply_of_part n i op log contents at p)) ∙ (ap (λ (r : Reply). is_change r) (sym is) ∙ write)

pub answered_by_read : (n i : ℕ) (op : Op) (s t : Seen) (old : PlainMap) (reply : Reply) → shard_of n op ≡ Some i → IsLater t s → IsPart n i t.log old
    → reply ≡ (ask old op).reply → is_change reply ≡ false → IsReply op s reply t
answered_by_read n i op s t old reply at l p is kept = (
  t.log,
  l.0,
  is ∙ reply_of_part n i op t.log old at p,
  l.1,
  (λ write. absurd (true≢false (sym write ∙ kept))),
  λ _. ([], sym (append-nil t.log), tt),
)

pub answered_since : (op : Op) (s t u : Seen) (reply : Reply) → IsLater t s → IsReply op t reply u → IsReply op s reply u
answered_since op s t u reply l a = (
  a.0,
  extends_since s t a.0 l a.1,
  a.2,
  a.3 ∙ l.1,
  (λ write. a.4 write ∙ ap (λ (r : List (ℕ × ℕ)). a.0 ++ change_of op a.0 (own_number r) ∷ []) l.1),
  λ kept. subst (λ (r : List (ℕ × ℕ)). Extends u.log (record { log = a.0; ranges = r })) l.1 (a.5 kept),
)

pub refused_since : (n : ℕ) (op : Op) (s t u : Seen) (e : AskError) → IsLater t s → IsRefusedAt n op t u e → IsRefusedAt n op s u e
refused_since n op s t u Memory l r = later_then s t u l r
refused_since n op s t u (Worn i) l r = (later_then s t u l r.0, r.1)
refused_since n op s t u (Held i k) l r = (later_then s t u l r.0, (λ alone. r.1 (alone_later s t l alone)), r.2, r.3)
refused_since n op s t u (Moved i k m) l r = absurd r
refused_since n op s t u GateShut l r = absurd r

-- a refusal by one shard is one by the store
pub refused_at : (store : StoreView) (op : Op) (s t : Seen) (e : AskError) → IsRefusedAt store.id.slots op s t e → IsRefused store op s t e
refused_at store op s t Memory r = r
refused_at store op s t (Worn i) r = r
refused_at store op s t (Held i k) r = r
refused_at store op s t (Moved i k m) r = absurd r
refused_at store op s t GateShut r = absurd r

-- the shard that an operation on one name is for is its home
pub at_home : (n i : ℕ) (op : Op) → shard_of n op ≡ Some i → Concerns n op i
at_home n i op at = subst (λ (o : Option ℕ). MatchOption o (i < n) (λ home. i ≡ home)) (sym at) refl

-- and each shard is one that a fetch-all reads
pub at_each : (n i : ℕ) (op : Op) → shard_of n op ≡ None → i < n → Concerns n op i
at_each n i op none inside = subst (λ (o : Option ℕ). MatchOption o (i < n) (λ home. i ≡ home)) (sym none) inside

pub fetch_has_no_home : (n : ℕ) → shard_of n FetchAll ≡ None
unfolding shard_of
fetch_has_no_home n = refl

pub own_both : (rs qs : List (ℕ × ℕ)) → 0 < own_count rs → own_count (rs ++ qs) ≡ own_count rs
own_both [] qs l = absurd (omega arith)
own_both (r ∷ rs) qs l = refl

-- the exchange that took the shard left its version in hand
pub taken_holds : {Z : Type 0} (n i : ℕ) (m m' : Me (SlotValue Z) View) (list : List Change) → IsIdle m
    → (version : Arc PlainMap Z) × (m' ≡ (view_after list m.0 (Some i), (i, Some version) ∷ m.1)) × IsPart n i list (arc_value version) → HasInHand n i m'.0.seen.log m'
taken_holds {Z} n i m m' list idle t = subst (λ (x : Me (SlotValue Z) View). HasInHand n i x.0.seen.log x) (sym t.1)
    (t.0, ap (λ (h : List (ℕ × SlotValue Z)). (i, Some t.0) ∷ h) idle.0, t.2, refl, refl, updated_own m.0 list (Some i) idle.1 idle.3)

pub taken_count : {Z : Type 0} (n i word found : ℕ) (m m' : Me (SlotValue Z) View) (list : List Change) (hand : List (ℕ × SlotValue Z)) (held : Option ℕ) → m' ≡ (view_after list m.0 held, hand) → found / 2 ≡ count n list i
    → word ≡ 2 * count n m.0.seen.log i → found ≡ word → count n m'.0.seen.log i ≡ count n m.0.seen.log i
taken_count {Z} n i word found m m' list hand held e counted is hit = let now : count n m'.0.seen.log i ≡ count n list i = ap (λ (x : Me (SlotValue Z) View). count n x.0.seen.log i) e in omega arith

-- a version that was put in place of the one in hand
pub put_in_hand : {Z : Type 0} (n i : ℕ) (f : Seen → List Change) (m m' : Me (SlotValue Z) View) (version : Arc PlainMap Z) → HasInHand n i m.0.seen.log m → m' ≡ (m.0, (i, Some version) ∷ rest m.1)
    → IsPart n i (f m.0.seen) (arc_value version) → (m'.0 ≡ m.0) × HasInHand n i (f m'.0.seen) m'
put_in_hand {Z} n i f m m' version h e p = let again : m' ≡ (m.0, (i, Some version) ∷ []) = e ∙ ap (λ (c : List (ℕ × SlotValue Z)). (m.0, (i, Some version) ∷ c)) (bare m.1 (i, Some h.0) h.1) in
    (ap (λ (x : Me (SlotValue Z) View). x.0) again, subst (λ (x : Me (SlotValue Z) View). HasInHand n i (f x.0.seen) x) (sym again) (version, refl, p, h.3, h.4, h.5))

-- a version that was put back in place of the one that was taken out of the slot in hand
pub returned : {Z : Type 0} (n i : ℕ) (log : List Change) (m m' m'' : Me (SlotValue Z) View) (out : SlotValue Z) (version : Arc PlainMap Z) → HasInHand n i m.0.seen.log m → m' ≡ (m.0, (i, out) ∷ rest m.1) → m'' ≡ (m'.0, (i, Some version) ∷ rest m'.1)
    → IsPart n i log (arc_value version) → (m''.0 ≡ m.0) × HasInHand n i log m''
returned {Z} n i log m m' m'' out version h e f p = let again : m'' ≡ (m.0, (i, Some version) ∷ []) =
    f ∙ (ap (λ (x : Me (SlotValue Z) View). (x.0, (i, Some version) ∷ rest x.1)) e ∙ ap (λ (c : List (ℕ × SlotValue Z)). (m.0, (i, Some version) ∷ c)) (bare m.1 (i, Some h.0) h.1)) in
    (ap (λ (x : Me (SlotValue Z) View). x.0) again, subst (λ (x : Me (SlotValue Z) View). HasInHand n i log x) (sym again) (version, refl, p, h.3, h.4, h.5))

-- the seat holds the shard still, with the version in hand that was put back
pub held_still : {Z : Type 0} (z : TableId) (hold : Hold) (p q : Seat (SlotValue Z) View) → q.me.0 ≡ p.me.0 → q.table_id ≡ z → IsWordOf z hold p.me.0.seen → HasInHand z.slots hold.shard p.me.0.seen.log q.me → Holds z hold q
held_still {Z} z hold p q e at word hand = (at, subst (λ (v : View). IsWordOf z hold v.seen) (sym e) word, subst (λ (v : View). HasInHand z.slots hold.shard v.seen.log q.me) (sym e) hand)

pub part_after : (n i : ℕ) (op : Op) (s : Seen) (old new : PlainMap) → shard_of n op ≡ Some i → IsPart n i s.log old → new ≡ (ask old op).map → IsPart n i (s.log ++ change_by op s ∷ []) new
part_after n i op s old new at p e = part_written n i op s.log (own_number s.ranges) old new at p e

-- the error that a `?` returns
pub error_passed : {A E : Type 0} (r : Result A E) (e : E) (P : A → Type 0) (Q : E → Type 0) → IsErrAnd r (λ x. x ≡ e) → Q e → MatchResult r P Q
error_passed (Ok x) e P Q is q = absurd is
error_passed (Err x) e P Q is q = subst Q (sym is) q
