-- The same entries, in order wherever the others are.
use Rattle.std.proofs.Common.{◌≡◌, ◌≢◌, true, false, List, [], ◌∷◌, ◌++◌, Option, refl, sym, ap, subst, ◌∙◌, append_assoc, append-nil}
use Rattle.std.proofs.lemmas.List.{map-append}
use Rattle.std.specs.Prelude.{T}
use Rattle.std.specs.declared.cmp.Ordering.TheVariants.{Less, Greater}
use Rattle.std.specs.Ordering.{ordering_then}
use Rattle.std.specs.Cmp.{tied_itself}
use Rattle.std.specs.Cmp.Lexicographic.{nat_list_cmp_total}
use Rattle.std.specs.FinMap.Entries.{below_all}
use Rattle.shared_map.specs.Name.{Name}
use Rattle.shared_map.specs.Marks.{Key, key_cmp, Marks, IsSorted, IsSameBut, entry, fence, entries_only, plain}
use Rattle.shared_map.proofs.Sides.{both, first, second, less, is_less, below_less}
use Rattle.shared_map.proofs.Plain.{key_total, plain-append, by_name}

pub same_refl : {V : Type 0} (ms : Marks V) → IsSameBut ms ms
same_refl ms = record { entries = refl; order = λ l r s. s }

pub same_is : {V : Type 0} {new old : Marks V} → new ≡ old → IsSameBut new old
same_is {V} {new} {old} e = subst (λ (ms : Marks V). IsSameBut ms old) (sym e) (same_refl old)

pub same_trans : {V : Type 0} {a b c : Marks V} → IsSameBut a b → IsSameBut b c → IsSameBut a c
same_trans p q = record { entries = p.entries ∙ q.entries; order = λ l r s. p.order l r (q.order l r s) }

-- l ++ ((a ++ (m ++ c)) ++ r), with m in the middle
regroup : {V : Type 0} (l a m c r : Marks V) → l ++ ((a ++ (m ++ c)) ++ r) ≡ (l ++ a) ++ (m ++ (c ++ r))
regroup l a m c r = simp append_assoc

pub same_within : {V : Type 0} (a : Marks V) {new old : Marks V} (c : Marks V) → IsSameBut new old → IsSameBut (a ++ (new ++ c)) (a ++ (old ++ c))
same_within {V} a {new} {old} c p =
    record {
      entries = plain-append a (new ++ c) ∙ ap (λ z. plain a ++ z) (plain-append new c ∙ ap (λ z. z ++ plain c) p.entries ∙ sym (plain-append old c)) ∙ sym (plain-append a (old ++ c));
      order = λ l r s. subst IsSorted (sym (regroup l a new c r)) (p.order (l ++ a) (c ++ r) (subst IsSorted (regroup l a old c r) s));
    }

pub sorted_new : {V : Type 0} {new old : Marks V} → IsSameBut new old → IsSorted old → IsSorted new
sorted_new {V} {new} {old} p s = subst IsSorted (append-nil new) (p.order [] [] (subst IsSorted (sym (append-nil old)) s))

below_out : {V : Type 0} (k : Key) (l : Marks V) (m : Key × Option V) (r : Marks V) → T (below_all key_cmp k (l ++ m ∷ r)) → T (below_all key_cmp k (l ++ r))
below_out k [] m r h = second _ _ h
below_out k (x ∷ l) m r h = both _ _ (first _ _ h) (below_out k l m r (second _ _ h))

sorted_out : {V : Type 0} (l : Marks V) (m : Key × Option V) (r : Marks V) → IsSorted (l ++ m ∷ r) → IsSorted (l ++ r)
sorted_out [] m r h = second _ _ h
sorted_out (x ∷ l) m r h = both _ _ (below_out x.0 l m r (first _ _ h)) (sorted_out l m r (second _ _ h))

-- a fence is taken away
pub fence_out : {V : Type 0} (u : Marks V) (name : Name) (w : Marks V) → IsSameBut (u ++ w) (u ++ fence name ∷ w)
fence_out {V} u name w =
    record {
      entries = plain-append u w ∙ sym (plain-append u (fence name ∷ w));
      order = λ l r s. subst IsSorted (append_assoc l u (w ++ r) ∙ ap (λ z. l ++ z) (sym (append_assoc u w r))) (sorted_out (l ++ u) (fence name) (w ++ r) (subst IsSorted (ap (λ z. l ++ z) (append_assoc u (fence name ∷ w) r) ∙ sym (append_assoc l u (fence name ∷ (w ++ r)))) s));
    }

below_in : {V : Type 0} (k : Key) (l : Marks V) (y f : Key × Option V) (r : Marks V) → key_cmp y.0 f.0 ≡ Less → T (below_all key_cmp k (l ++ y ∷ r)) → T (below_all key_cmp k (l ++ y ∷ f ∷ r))
below_in k [] y f r p h = both _ _ (first _ _ h) (both _ _ (is_less _ (key_total.trans k y.0 f.0 (less _ (first _ _ h)) p)) (second _ _ h))
below_in k (x ∷ l) y f r p h = both _ _ (first _ _ h) (below_in k l y f r p (second _ _ h))

-- f is put between y and g
sorted_in : {V : Type 0} (l : Marks V) (y f g : Key × Option V) (r : Marks V) → key_cmp y.0 f.0 ≡ Less → key_cmp f.0 g.0 ≡ Less → IsSorted (l ++ y ∷ g ∷ r) → IsSorted (l ++ y ∷ f ∷ g ∷ r)
sorted_in [] y f g r p q h =
    let rest = second _ _ h in
    both _ _ (both _ _ (is_less _ p) (first _ _ h)) (both _ _ (both _ _ (is_less _ q) (below_less key_cmp key_total f.0 g.0 r q (first _ _ rest))) rest)
sorted_in (x ∷ l) y f g r p q h = both _ _ (below_in x.0 l y f (g ∷ r) p (first _ _ h)) (sorted_in l y f g r p q (second _ _ h))

-- the last of a list that is not empty
pub record Ended {A : Type 0} (l : List A) : Type 0 where
  pub front : List A
  pub last : A
  pub is : l ≡ front ++ last ∷ []

pub ended : {A : Type 0} (x : A) (l : List A) → Ended (x ∷ l)
ended x [] = record { front = []; last = x; is = refl }
ended x (y ∷ l) = let e = ended y l in record { front = x ∷ e.front; last = e.last; is = ap (λ z. x ∷ z) e.is }

pub ended_of : {A : Type 0} (l : List A) → l ≢ [] → Ended l
ended_of [] h = absurd (h refl)
ended_of (x ∷ l) h = ended x l

sorted_pair : {V : Type 0} (l : Marks V) (y g : Key × Option V) (r : Marks V) → IsSorted (l ++ y ∷ g ∷ r) → key_cmp y.0 g.0 ≡ Less
sorted_pair [] y g r h = less _ (first _ _ (first _ _ h))
sorted_pair (x ∷ l) y g r h = sorted_pair l y g r (second _ _ h)

after_entry : (a b : Name) → key_cmp (a, true) (b, true) ≡ Less → key_cmp (a, true) (b, false) ≡ Less
after_entry a b h = ap (λ o. ordering_then o Greater) (sym (by_name a b) ∙ h)

before_entry : (a : Name) → key_cmp (a, false) (a, true) ≡ Less
before_entry a = ap (λ o. ordering_then o Less) (tied_itself nat_list_cmp_total a)

put_in_between : {V : Type 0} (a : Marks V) (y x : Name × V) (b : Marks V) → IsSameBut (a ++ entry y ∷ fence x.0 ∷ entry x ∷ b) (a ++ entry y ∷ entry x ∷ b)
put_in_between {V} a y x b =
    record {
      entries = plain-append a (entry y ∷ fence x.0 ∷ entry x ∷ b) ∙ sym (plain-append a (entry y ∷ entry x ∷ b));
      order = λ l r s.
          let s' : IsSorted ((l ++ a) ++ entry y ∷ entry x ∷ (b ++ r)) = subst IsSorted (ap (λ z. l ++ z) (append_assoc a (entry y ∷ entry x ∷ b) r) ∙ sym (append_assoc l a (entry y ∷ entry x ∷ (b ++ r)))) s in
          subst IsSorted (append_assoc l a (entry y ∷ fence x.0 ∷ entry x ∷ (b ++ r)) ∙ ap (λ z. l ++ z) (sym (append_assoc a (entry y ∷ fence x.0 ∷ entry x ∷ b) r)))
          (sorted_in (l ++ a) (entry y) (fence x.0) (entry x) (b ++ r) (after_entry y.0 x.0 (sorted_pair (l ++ a) (entry y) (entry x) (b ++ r) s')) (before_entry x.0) s');
    }

-- a fence is put before an entry that is not the first
pub fence_in : {V : Type 0} (u : List (Name × V)) (x : Name × V) (w : List (Name × V)) → u ≢ [] → IsSameBut (entries_only u ++ (fence x.0 ∷ entries_only (x ∷ w))) (entries_only (u ++ x ∷ w))
fence_in {V} u x w some =
    let m = ended_of u some in
    let a : Marks V = entries_only m.front in
    let b : Marks V = entries_only w in
    let with_fence : entries_only u ++ (fence x.0 ∷ entries_only (x ∷ w)) ≡ a ++ entry m.last ∷ fence x.0 ∷ entry x ∷ b = ap (λ l. entries_only l ++ (fence x.0 ∷ entries_only (x ∷ w))) m.is ∙ ap (λ l. l ++ (fence x.0 ∷ entry x ∷ b)) (map-append entry m.front (m.last ∷ [])) ∙ append_assoc a (entry m.last ∷ []) (fence x.0 ∷ entry x ∷ b) in
    let without_fence : entries_only (u ++ x ∷ w) ≡ a ++ entry m.last ∷ entry x ∷ b = map-append entry u (x ∷ w) ∙ ap (λ l. entries_only l ++ (entry x ∷ b)) m.is ∙ ap (λ l. l ++ (entry x ∷ b)) (map-append entry m.front (m.last ∷ [])) ∙ append_assoc a (entry m.last ∷ []) (entry x ∷ b) in
    same_trans (same_is with_fence) (same_trans (put_in_between a m.last x b) (same_is (sym without_fence)))
