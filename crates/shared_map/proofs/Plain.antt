-- The entries among marks, and those that have no fence between them.
use Rattle.std.proofs.Common.{◌≡◌, true, false, cond, List, [], ◌∷◌, ◌++◌, Option, Some, None, refl, sym, ap, subst, ◌∙◌, append_assoc, arith}
use Rattle.std.specs.Prelude.{T}
use Rattle.std.specs.Option.{option_flatten}
use Rattle.std.specs.declared.cmp.Ordering.{Ordering}
use Rattle.std.specs.declared.cmp.Ordering.TheVariants.{Less, Equal, Greater}
use Rattle.std.specs.Ordering.{is_eq, ordering_then}
use Rattle.std.specs.Cmp.{IsTotalOrder, bool_cmp_total}
use Rattle.std.specs.Cmp.Lexicographic.{nat_list_cmp_total}
use Rattle.std.proofs.lemmas.Cmp.{then_total, on_total}
use Rattle.std.specs.FinMap.{IsAntisymmetric, slice_cmp-IsAntisymmetric, nat_cmp-IsAntisymmetric}
use Rattle.std.specs.FinMap.Entries.{by_order, put, where_key, find, below_all, is_sorted}
use Rattle.shared_map.specs.Name.{Name, name_cmp}
use Rattle.shared_map.specs.Marks.{Key, key_cmp, Marks, IsSorted, entries_only, plain_mark, plain, with, without}
use Rattle.shared_map.proofs.Sides.{both, first, second, less, is_less, others, find_below, below_less, below_equal}

pub key_total : IsTotalOrder key_cmp
key_total = then_total (on_total (λ (k : Key). k.0) nat_list_cmp_total) (on_total (λ (k : Key). k.1) bool_cmp_total)

pub name_exact : IsAntisymmetric name_cmp
name_exact = slice_cmp-IsAntisymmetric nat_cmp-IsAntisymmetric

then_equal : (o : Ordering) → ordering_then o Equal ≡ o
then_equal o = grind arith

-- entries are ordered by their names
pub by_name : (a b : Name) → key_cmp (a, true) (b, true) ≡ name_cmp a b
by_name a b = then_equal (name_cmp a b)

-- an entry is never at a fence
not_at_fence : (o : Ordering) → is_eq (ordering_then o Greater) ≡ false
not_at_fence o = grind arith

pub plain-entries_only : {V : Type 0} (es : List (Name × V)) → plain (entries_only es) ≡ es
plain-entries_only [] = refl
plain-entries_only (e ∷ es) = ap (λ z. e ∷ z) (plain-entries_only es)

pub plain-append : {V : Type 0} (a b : Marks V) → plain (a ++ b) ≡ plain a ++ plain b
plain-append [] b = refl
plain-append (m ∷ a) b = ap (λ z. plain_mark m ++ z) (plain-append a b) ∙ sym (append_assoc (plain_mark m) (plain a) (plain b))

pub entries_only-with : {V : Type 0} (n : Name) (v : V) (es : List (Name × V)) → entries_only (put name_cmp n v es) ≡ with n v (entries_only es)
entries_only-with n v [] = refl
entries_only-with {V} n v (e ∷ es) =
    let ih = entries_only-with n v es in grind (arith, ih)

pub entries_only-without : {V : Type 0} (n : Name) (es : List (Name × V)) → entries_only (where_key name_cmp (others name_cmp n) es) ≡ without n (entries_only es)
entries_only-without n [] = refl
entries_only-without {V} n (e ∷ es) =
    let ih = entries_only-without n es in grind (arith, ih)

below_plain : {V : Type 0} (n : Name) (ms : Marks V) → T (below_all key_cmp (n, true) ms) → T (below_all name_cmp n (plain ms))
below_plain n [] h = tt
below_plain n (((x, true), Some v) ∷ ms) h = both _ _ (is_less _ (sym (by_name n x) ∙ less _ (first _ _ h))) (below_plain n ms (second _ _ h))
below_plain n (((x, true), None) ∷ ms) h = below_plain n ms (second _ _ h)
below_plain n (((x, false), o) ∷ ms) h = below_plain n ms (second _ _ h)

pub sorted_plain : {V : Type 0} (ms : Marks V) → IsSorted ms → T (is_sorted name_cmp (plain ms))
sorted_plain [] h = tt
sorted_plain (((x, true), Some v) ∷ ms) h = both _ _ (below_plain x ms (first _ _ h)) (sorted_plain ms (second _ _ h))
sorted_plain (((x, true), None) ∷ ms) h = sorted_plain ms (second _ _ h)
sorted_plain (((x, false), o) ∷ ms) h = sorted_plain ms (second _ _ h)

pub sorted_names : {V : Type 0} (es : List (Name × V)) → IsSorted (entries_only es) → T (is_sorted name_cmp es)
sorted_names es h = subst (λ l. T (is_sorted name_cmp l)) (plain-entries_only es) (sorted_plain (entries_only es) h)

-- the entries of what comes after a mark at n are after n
below_tied : {V : Type 0} (n x : Name) (ms : Marks V) → key_cmp (n, true) (x, true) ≡ Equal → T (below_all key_cmp (x, true) ms) → T (below_all name_cmp n (plain ms))
below_tied n x ms t h = below_plain n ms (below_equal key_cmp key_total (n, true) (x, true) ms t h)

below_before : {V : Type 0} (n : Name) (k : Key) (ms : Marks V) → key_cmp (n, true) k ≡ Less → T (below_all key_cmp k ms) → T (below_all name_cmp n (plain ms))
below_before n k ms t h = below_plain n ms (below_less key_cmp key_total (n, true) k ms t h)

sorted_rest : {V : Type 0} (m : Key × Option V) (ms : Marks V) → IsSorted (m ∷ ms) → IsSorted ms
sorted_rest m ms h = second _ _ h

pub find_plain : {V : Type 0} (n : Name) (ms : Marks V) → IsSorted ms → find name_cmp n (plain ms) ≡ option_flatten (find key_cmp (n, true) ms)
find_plain n [] h = refl
find_plain n (((x, true), Some v) ∷ ms) h = let ih = find_plain n ms (sorted_rest ((x, true), Some v) ms h) in grind (arith, ih)
find_plain n (((x, true), None) ∷ ms) h =
    let ih = find_plain n ms (sorted_rest ((x, true), None) ms h) in
    let none : key_cmp (n, true) (x, true) ≡ Equal → find name_cmp n (plain ms) ≡ None = (λ t. find_below name_cmp n (plain ms) (below_tied n x ms t (first _ _ h))) in
    grind (arith, ih, none)
find_plain {V} n (((x, false), o) ∷ ms) h =
    find_plain n ms (second _ _ h) ∙ ap (λ b. option_flatten (cond b (Some o) (find key_cmp (n, true) ms))) (sym (not_at_fence (name_cmp n x)))

put_below : {V : Type 0} (n : Name) (v : V) (es : List (Name × V)) → T (below_all name_cmp n es) → put name_cmp n v es ≡ (n, v) ∷ es
put_below n v [] h = refl
put_below n v (e ∷ es) h = ap (λ o. by_order o ((n, v) ∷ e ∷ es) ((e.0, v) ∷ es) (e ∷ put name_cmp n v es)) (less _ (first _ _ h))

pub plain_with : {V : Type 0} (n : Name) (v : V) (ms : Marks V) → IsSorted ms → plain (with n v ms) ≡ put name_cmp n v (plain ms)
plain_with n v [] h = refl
plain_with {V} n v (((x, true), Some w) ∷ ms) h =
    let ih = plain_with n v ms (sorted_rest ((x, true), Some w) ms h) in grind (arith, ih)
plain_with {V} n v (((x, true), None) ∷ ms) h =
    let ih = plain_with n v ms (sorted_rest ((x, true), None) ms h) in
    let before : key_cmp (n, true) (x, true) ≡ Less → put name_cmp n v (plain ms) ≡ (n, v) ∷ plain ms = (λ t. put_below n v (plain ms) (below_before n (x, true) ms t (first _ _ h))) in
    let tie : key_cmp (n, true) (x, true) ≡ Equal → put name_cmp n v (plain ms) ≡ (x, v) ∷ plain ms =
    (λ t. put_below n v (plain ms) (below_tied n x ms t (first _ _ h)) ∙ ap (λ y. (y, v) ∷ plain ms) (name_exact n x (sym (by_name n x) ∙ t))) in
    grind (arith, ih, before, tie)
plain_with {V} n v (((x, false), o) ∷ ms) h =
    let ih = plain_with n v ms (sorted_rest ((x, false), o) ms h) in
    let before : key_cmp (n, true) (x, false) ≡ Less → put name_cmp n v (plain ms) ≡ (n, v) ∷ plain ms = (λ t. put_below n v (plain ms) (below_before n (x, false) ms t (first _ _ h))) in
    grind (arith, ih, before)

pub plain_without : {V : Type 0} (n : Name) (ms : Marks V) → plain (without n ms) ≡ where_key name_cmp (others name_cmp n) (plain ms)
plain_without n [] = refl
plain_without n (((x, true), Some w) ∷ ms) = let ih = plain_without n ms in grind (arith, ih)
plain_without n (((x, true), None) ∷ ms) = let ih = plain_without n ms in grind (arith, ih)
plain_without n (((x, false), o) ∷ ms) = let ih = plain_without n ms in grind (arith, ih)
