-- Lists of changes: what is kept when one is added.
use Rattle.std.proofs.Common.{◌≡◌, ◌≢◌, ◌⊎◌, ℕ, ◌+◌, ◌-◌, ◌<◌, ◌≤◌, Bool, true, false, true≢false, cond, List, [], ◌∷◌, ◌++◌, Some, None, eq-eqb, ne_eqb, sym, refl, ap, ◌∙◌, subst, inl, inr, ⊎_elim, append_assoc, arith}
use Rattle.std.specs.Prelude.{nat_eq}
use Rattle.std.specs.List.{fold, filter}
use Rattle.std.specs.FinMap as finite
use Rattle.std.proofs.lemmas.List.{append-nil}
use Rattle.std.proofs.lemmas.List.Elements.{filter-append}
use Rattle.std.proofs.lemmas.List.Sums.{fold-append, sum_by-append}
use Rattle.map_core.specs.declared.op.Op.{Op}
use Rattle.map_core.specs.PlainMap.{PlainMap, put, ask, home, shard_of, partition}
use Rattle.map_core.specs.PlainMap.{name_of}
use Rattle.map_core.proofs.Maps.{part-put_home, part-put_away}
use Rattle.map_core.proofs.MapLaws.{part_home, home_of, asked_puts, now_of_part}
use Rattle.shard_store.specs.declared.change.Change.{Change}
use Rattle.shard_store.specs.declared.change.Seen.{Seen}
use Rattle.shard_store.specs.Changes.{make_change, after, change_of, count, HasNumber, AreOthers, Extends, own_count, without_last, just_last}
use Rattle.shard_store.specs.Numbers.{IsPart, IsNumbered, IsParted}

pub others_append : (r : List (ℕ × ℕ)) (a b : List Change) → AreOthers r a → AreOthers r b → AreOthers r (a ++ b)
others_append r [] b p q = q
others_append r (c ∷ cs) b p q = (p.0, p.1, others_append r cs b p.2 q)

pub others_fewer : (r r' : List (ℕ × ℕ)) (new : List Change) → ((k : ℕ) → HasNumber r' k → HasNumber r k) → AreOthers r new → AreOthers r' new
others_fewer r r' [] f p = tt
others_fewer r r' (c ∷ cs) f p = (p.0, (λ b. p.1 (f c.number b)), others_fewer r r' cs f p.2)

pub has_number_left : (r q : List (ℕ × ℕ)) (k : ℕ) → HasNumber r k → HasNumber (r ++ q) k
has_number_left [] q k b = absurd b
has_number_left (x ∷ xs) q k b = ⊎_elim (λ h. inl h) (λ h. inr (has_number_left xs q k h)) b

pub has_number_right : (r q : List (ℕ × ℕ)) (k : ℕ) → HasNumber q k → HasNumber (r ++ q) k
has_number_right [] q k b = b
has_number_right (x ∷ xs) q k b = inr (has_number_right xs q k b)

pub has_number_either : (r q : List (ℕ × ℕ)) (k : ℕ) → HasNumber (r ++ q) k → HasNumber r k ⊎ HasNumber q k
has_number_either [] q k b = inr b
has_number_either (x ∷ xs) q k b = ⊎_elim (λ h. inl (inl h)) (λ h. ⊎_elim (λ g. inl (inr g)) (λ g. inr g) (has_number_either xs q k h)) b

pub numbered_append : (a b : List Change) → IsNumbered a → IsNumbered b → IsNumbered (a ++ b)
numbered_append [] b p q = q
numbered_append (c ∷ cs) b p q = (p.0, numbered_append cs b p.1 q)

pub extends_none : (s : Seen) → Extends s.log s
extends_none s = ([], sym (append-nil s.log), tt)

pub extends_more : (s : Seen) (list new : List Change) → Extends list s → AreOthers s.ranges new → Extends (list ++ new) s
extends_more s list new g o = (g.0 ++ new, ap (λ l. l ++ new) g.1 ∙ append_assoc s.log g.0 new, others_append s.ranges g.0 new g.2 o)

-- who has all numbers sees no change of another
pub none_by_others : (r : List (ℕ × ℕ)) (new : List Change) → ((k : ℕ) → k < 4294967296 → HasNumber r k) → AreOthers r new → new ≡ []
none_by_others r [] all o = refl
none_by_others r (c ∷ cs) all o = absurd (o.1 (all c.number o.0))

pub count_append : (n : ℕ) (a b : List Change) (i : ℕ) → count n (a ++ b) i ≡ count n a i + count n b i
count_append n a b i = sum_by-append (λ c. cond (nat_eq (home n c.name) i) 1 0) a b

zero_sum : (a b : ℕ) → a + b ≡ 0 → (a ≡ 0) × (b ≡ 0)
zero_sum a b e = (omega arith, omega arith)

abbrev weight : Bool → ℕ
weight b = cond b 1 0

not_none : (b : Bool) → b ≡ true → weight b ≡ 0 → ⊥
not_none true e z = omega arith
not_none false e z = true≢false (sym e)

-- changes at home elsewhere leave the part
unwritten : (n i : ℕ) (m : PlainMap) (new : List Change) → count n new i ≡ 0 → partition n (fold make_change m new) i ≡ partition n m i
unwritten n i m [] e = refl
unwritten n i m (c ∷ cs) e = unwritten n i (make_change m c) cs both.1 ∙ part-put_away n m i c.name c.now (λ here. not_none (nat_eq (home n c.name) i) (eq-eqb (home n c.name) i here) both.0)
  where
    both : (weight (nat_eq (home n c.name) i) ≡ 0) × (count n cs i ≡ 0)
    both = let parts = zero_sum (count n (c ∷ []) i) (count n cs i) (sym (count_append n (c ∷ []) cs i) ∙ e) in ((zero_sum 0 (weight (nat_eq (home n c.name) i)) parts.0).1, parts.1)

pub part_stays : (n i : ℕ) (log new : List Change) → count n new i ≡ 0 → partition n (after (log ++ new)) i ≡ partition n (after log) i
part_stays n i log new e = ap (λ m. partition n m i) (fold-append make_change finite.empty log new) ∙ unwritten n i (after log) new e

pub is_part_stays : (n i : ℕ) (log new : List Change) (contents : PlainMap) → count n new i ≡ 0 → IsPart n i log contents → IsPart n i (log ++ new) contents
is_part_stays n i log new contents e p = p ∙ sym (part_stays n i log new e)

pub after_one : (log : List Change) (change : Change) → after (log ++ change ∷ []) ≡ put (after log) change.name change.now
after_one log change = fold-append make_change finite.empty log (change ∷ [])

part_of_one : (n i : ℕ) (log : List Change) (change : Change) → home n change.name ≡ i → partition n (after (log ++ change ∷ [])) i ≡ put (partition n (after log) i) change.name change.now
part_of_one n i log change here = ap (λ m. partition n m i) (after_one log change) ∙ part-put_home n (after log) i change.name change.now here

-- what a change makes of the part follows from the part
pub is_part_of_change : (n i : ℕ) (log new : List Change) (change : Change) (contents : PlainMap) → home n change.name ≡ i → count n new i ≡ 0 → IsPart n i (log ++ change ∷ []) contents → IsPart n i ((log ++ new) ++ change ∷ []) contents
is_part_of_change n i log new change contents here e p = p ∙ (part_of_one n i log change here ∙ (ap (λ m. put m change.name change.now) (sym (part_stays n i log new e)) ∙ sym (part_of_one n i (log ++ new) change here)))

-- an operation's change leaves the map that the operation leaves
pub after_change : (n i : ℕ) (op : Op) (log : List Change) (number : ℕ) → shard_of n op ≡ Some i → after (log ++ change_of op log number ∷ []) ≡ (ask (after log) op).map
after_change n i op log number at = after_one log (change_of op log number) ∙ sym (asked_puts n i (after log) op at)

pub home_named : (n i : ℕ) (op : Op) → shard_of n op ≡ Some i → home n (name_of op) ≡ i
home_named n i op at = home_of n i op at

-- the change of an operation follows from the part
pub same_change : (n i : ℕ) (op : Op) (log new : List Change) (number : ℕ) → shard_of n op ≡ Some i → count n new i ≡ 0 → change_of op (log ++ new) number ≡ change_of op log number
same_change n i op log new number at e = ap (λ held. record { name = name_of op; now = held; number = number }) (now_of_part n i (after (log ++ new)) (after log) op at (part_stays n i log new e))

-- the contents that an operation leaves are the part after its change
pub part_written : (n i : ℕ) (op : Op) (log : List Change) (number : ℕ) (old new : PlainMap) → shard_of n op ≡ Some i → IsPart n i log old → new ≡ (ask old op).map → IsPart n i (log ++ change_of op log number ∷ []) new
part_written n i op log number old new at p e = e ∙ (ap (λ m. (ask m op).map) p ∙ (sym (part_home n (after log) op i at) ∙ ap (λ m. partition n m i) (sym (after_change n i op log number at))))

pub some_same : (i j : ℕ) → Some i ≡ Some j → i ≡ j
some_same i j e = cc

pub not_some : (j : ℕ) → None ≡ Some j → ⊥
not_some j e = absurd (cc)

pub counts_one : (n i : ℕ) (change : Change) → home n change.name ≡ i → count n (change ∷ []) i ≡ 1
counts_one n i change e = ap (λ (b : Bool). 0 + weight b) (eq-eqb (home n change.name) i e)

pub counts_none : (n i j : ℕ) (change : Change) → home n change.name ≡ i → j ≢ i → count n (change ∷ []) j ≡ 0
counts_none n i j change e apart = ap (λ (b : Bool). 0 + weight b) (ne_eqb (home n change.name) j (λ same. apart (sym same ∙ e)))

-- ranges split_off in two
pub kept_fewer : (share : ℕ) (rs joined : List (ℕ × ℕ)) (k : ℕ) → HasNumber (without_last share rs ++ joined) k → HasNumber (rs ++ joined) k
kept_fewer share [] joined k b = b
kept_fewer share (r ∷ rs) joined k b = ⊎_elim (λ (h : (r.0 ≤ k) × (k < r.0 + (r.1 - share))). inl (h.0, omega arith)) (λ h. inr h) b

pub given_fewer : (share : ℕ) (rs : List (ℕ × ℕ)) → share ≤ own_count rs → (k : ℕ) → HasNumber (just_last share rs) k → HasNumber rs k
given_fewer share [] fits k b = b
given_fewer share (r ∷ rs) fits k b = ⊎_elim (λ (h : (r.0 + (r.1 - share) ≤ k) × (k < (r.0 + (r.1 - share)) + share)). inl (omega arith, omega arith)) (λ h. absurd h) b

pub kept_parted : (share : ℕ) (rs joined : List (ℕ × ℕ)) → IsParted (rs ++ joined) → IsParted (without_last share rs ++ joined)
kept_parted share [] joined p = p
kept_parted share (r ∷ rs) joined p = ((λ k a b. p.0 k a (omega arith)), p.1)

pub given_parted : (share : ℕ) (rs : List (ℕ × ℕ)) → IsParted (just_last share rs)
given_parted share [] = tt
given_parted share (r ∷ rs) = ((λ k a b h. h), tt)

pub kept_given_apart : (share : ℕ) (rs joined : List (ℕ × ℕ)) → share ≤ own_count rs → IsParted (rs ++ joined) → (k : ℕ) → HasNumber (without_last share rs ++ joined) k → HasNumber (just_last share rs) k → ⊥
kept_given_apart share [] joined fits p k a b = b
kept_given_apart share (r ∷ rs) joined fits p k a b = ⊎_elim
    (λ (h : (r.0 + (r.1 - share) ≤ k) × (k < (r.0 + (r.1 - share)) + share)). ⊎_elim (λ (g : (r.0 ≤ k) × (k < r.0 + (r.1 - share))). omega arith) (λ g. p.0 k (omega arith) (omega arith) g) a)
    (λ h. h) b

pub parted_append : (a b : List (ℕ × ℕ)) → IsParted a → IsParted b → ((k : ℕ) → HasNumber a k → HasNumber b k → ⊥) → IsParted (a ++ b)
parted_append [] b p q apart = q
parted_append (r ∷ rs) b p q apart = (
  (λ k l h both. ⊎_elim (λ g. p.0 k l h g) (λ g. apart k (inl (l, h)) g) (has_number_either rs b k both)),
  parted_append rs b p.1 q (λ k x y. apart k (inr x) y),
)

pub others_none : (new : List Change) → IsNumbered new → AreOthers [] new
others_none [] p = tt
others_none (c ∷ cs) p = (p.0, (λ b. b), others_none cs p.1)

-- changes of others bear none of a pass's numbers
none_of : (r : List (ℕ × ℕ)) (new : List Change) (k : ℕ) → HasNumber r k → AreOthers r new → filter (λ c. nat_eq c.number k) new ≡ []
none_of r [] k has others = refl
none_of r (c ∷ cs) k has others = ap (λ (b : Bool). cond b (c ∷ filter (λ d. nat_eq d.number k) cs) (filter (λ d. nat_eq d.number k) cs)) (ne_eqb c.number k (λ same. others.1 (subst (HasNumber r) (sym same) has)))
    ∙ none_of r cs k has others.2

pub own_changes : (list : List Change) (s : Seen) (k : ℕ) → Extends list s → HasNumber s.ranges k → filter (λ c. nat_eq c.number k) list ≡ filter (λ c. nat_eq c.number k) s.log
own_changes list s k g has = ap (filter (λ (c : Change). nat_eq c.number k)) g.1 ∙ (filter-append (λ (c : Change). nat_eq c.number k) s.log g.0
    ∙ (ap (λ (l : List Change). filter (λ c. nat_eq c.number k) s.log ++ l) (none_of s.ranges g.0 k has g.2) ∙ append-nil (filter (λ c. nat_eq c.number k) s.log)))
