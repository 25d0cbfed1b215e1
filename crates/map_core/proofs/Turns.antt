-- Entries in order of their names, inserted in turn: of those under one name, the last one counts.
use Rattle.std.proofs.Common.{◌≡◌, ℕ, suc, ◌+◌, T, ◌&&◌, Bool, true, false, cond, not, List, [], ◌∷◌, filter, get_or, Option, Some, arith, refl, sym, ap, subst, ◌∙◌}
use Rattle.std.proofs.lemmas.Map.Text.{is_eq-slice_cmp}
use Rattle.std.specs.Prelude.{bytes_eq}
use Rattle.std.specs.declared.cmp.Ordering.{Ordering}
use Rattle.std.specs.declared.cmp.Ordering.TheVariants.{Less, Equal, Greater}
use Rattle.std.specs.Ordering.{is_eq, is_lt, ordering_reverse}
use Rattle.std.specs.Cmp.Lexicographic.{nat_list_cmp_total}
use Rattle.std.specs.FinMap.Entries.{below_all}
use Rattle.std.specs.FinMap.{get-insert, is_sorted}
use Rattle.std.specs.FinMap as finite
use Rattle.std.specs.List.Sorted.{IsSortedByKey, IsStableBy, ties}
use Rattle.map_core.specs.declared.held.Holding.{Holding}
use Rattle.map_core.specs.declared.held.Holding.TheVariants.{Mark}
use Rattle.map_core.specs.Name.{Name, name_cmp}
use Rattle.map_core.specs.PlainMap.{PlainMap, bundles_among, bundles}
use Rattle.map_core.specs.Private.Turns.{with_entries, put_in_turn, begins_with}
use Rattle.map_core.proofs.Maps.{is_name, same_name, same_held}
use Rattle.map_core.proofs.Entries.{both, in_turn, entries_sorted}

-- the last of the entries under each name
abbrev pub last_ones : List (Name × Holding) → List (Name × Holding)
last_ones [] = []
last_ones (e ∷ es) = cond (begins_with e.0 es) (last_ones es) (e ∷ last_ones es)

same_bytes : (a b : Name) → bytes_eq a b ≡ true → a ≡ b
same_bytes a b t = same_name a b (is_eq-slice_cmp a b ∙ t)

-- ---- an entry that another one follows under its name does not count
covers : (t : Bool) (x y z : Option Holding) → cond t x (cond t y z) ≡ cond t x z
covers t x y z = grind arith

twice : (m : PlainMap) (e f : Name × Holding) → f.0 ≡ e.0 → finite.insert (finite.insert m e.0 e.1) f.0 f.1 ≡ finite.insert m f.0 f.1
twice m e f same =
    same_held _ _ (λ q.
    get-insert nat_list_cmp_total (finite.insert m e.0 e.1) f.0 f.1 q
    ∙ ap (cond (is_name q f.0) (Some f.1)) (get-insert nat_list_cmp_total m e.0 e.1 q)
    ∙ ap (λ (d : Name). cond (is_name q f.0) (Some f.1) (cond (is_name q d) (Some e.1) (finite.get m q))) (sym same)
    ∙ covers (is_name q f.0) (Some f.1) (Some e.1) (finite.get m q)
    ∙ sym (get-insert nat_list_cmp_total m f.0 f.1 q))

followed : (m : PlainMap) (e : Name × Holding) (es : List (Name × Holding)) → begins_with e.0 es ≡ true → with_entries m es ≡ with_entries (finite.insert m e.0 e.1) es
followed m e [] t = cc
followed m e (f ∷ fs) t = ap (λ n. with_entries n fs) (sym (twice m e f (same_bytes f.0 e.0 t)))

last_count : (m : PlainMap) (es : List (Name × Holding)) → with_entries m (last_ones es) ≡ with_entries m es
last_count m [] = refl
last_count m (e ∷ es) =
    elim (begins_with e.0 es) as (λ t. begins_with e.0 es ≡ t → with_entries m (cond t (last_ones es) (e ∷ last_ones es)) ≡ with_entries (finite.insert m e.0 e.1) es) [
      | true ↦ λ t. last_count m es ∙ followed m e es t
      | false ↦ λ t. last_count (finite.insert m e.0 e.1) es
    ] refl

-- ---- the names of those that count rise strictly
abbrev Follows : Name × Holding → List (Name × Holding) → Type 0
Follows e [] = Unit {0}
Follows e (f ∷ fs) = is_lt (name_cmp f.0 e.0) ≡ false

-- no name is below the one before it
abbrev Ascend : List (Name × Holding) → Type 0
Ascend [] = Unit {0}
Ascend (e ∷ es) = Follows e es × Ascend es

ascend : (es : List (Name × Holding)) → IsSortedByKey (λ (e : Name × Holding). e.0) name_cmp es → Ascend es
ascend [] s = tt
ascend (e ∷ []) s = (tt, tt)
ascend (e ∷ f ∷ es) s = (
  s 0 e (omega arith) (omega arith),
  ascend (f ∷ es) (λ k d low high.
      let next : suc k + 1 ≡ suc (k + 1) = omega arith in
      subst (λ (n : ℕ). is_lt (name_cmp (get_or (e ∷ f ∷ es) n d).0 (get_or (f ∷ es) k d).0) ≡ false) next (s (suc k) d (omega arith) (omega arith))),
)

-- a name that is not below another one is that name, or the other is below it
above : (a b : Name) → is_lt (name_cmp b a) ≡ false → bytes_eq b a ≡ false → name_cmp a b ≡ Less
above a b not_less apart =
    let tie = is_eq-slice_cmp b a ∙ apart in
    let turned = nat_list_cmp_total.antisymm a b in
    grind (arith, tie, turned)

less_then : (d a b : Name) → name_cmp d a ≡ Less → is_lt (name_cmp b a) ≡ false → name_cmp d b ≡ Less
less_then d a b less not_less =
    elim (bytes_eq b a) as (λ t. bytes_eq b a ≡ t → name_cmp d b ≡ Less) [
      | true ↦ λ t. ap (name_cmp d) (same_bytes b a t) ∙ less
      | false ↦ λ t. nat_list_cmp_total.trans d a b less (above a b not_less t)
    ] refl

is_less : (a b : Name) → name_cmp a b ≡ Less → T (is_lt (name_cmp a b))
is_less a b less = subst (λ o. T (is_lt o)) (sym less) tt

below_last : (d : Name) (e : Name × Holding) (es : List (Name × Holding)) → Ascend (e ∷ es) → name_cmp d e.0 ≡ Less → T (below_all name_cmp d (last_ones (e ∷ es)))
below_last d e [] up less = both _ _ (is_less d e.0 less) tt
below_last d e (f ∷ es) up less =
    let rest = below_last d f es up.1 (less_then d e.0 f.0 less up.0) in
    elim (begins_with e.0 (f ∷ es)) as (λ t. T (below_all name_cmp d (cond t (last_ones (f ∷ es)) (e ∷ last_ones (f ∷ es))))) [
      | true ↦ rest
      | false ↦ both _ _ (is_less d e.0 less) rest
    ]

sorted-last : (es : List (Name × Holding)) → Ascend es → T (is_sorted name_cmp (last_ones es))
sorted-last [] up = tt
sorted-last (e ∷ []) up = tt
sorted-last (e ∷ f ∷ es) up =
    elim (begins_with e.0 (f ∷ es)) as (λ t. begins_with e.0 (f ∷ es) ≡ t → T (is_sorted name_cmp (cond t (last_ones (f ∷ es)) (e ∷ last_ones (f ∷ es))))) [
      | true ↦ λ t. sorted-last (f ∷ es) up.1
      | false ↦ λ t. both _ _ (below_last e.0 f es up.1 (above e.0 f.0 up.0 t)) (sorted-last (f ∷ es) up.1)
    ] refl

-- the bundles among those that count are all
pub bundles-last : (es : List (Name × Holding)) → IsSortedByKey (λ (e : Name × Holding). e.0) name_cmp es → bundles_among (last_ones es) ≡ bundles (put_in_turn es)
bundles-last es s =
    let sorted = sorted-last es (ascend es s) in
    ap bundles_among (sym (entries_sorted (last_ones es) sorted) ∙ ap finite.entries (sym (in_turn (last_ones es) sorted) ∙ last_count finite.empty es))

-- ---- a stable sort by the names
abbrev comes_before : Name × Holding → Name × Holding → Bool
comes_before e f = is_lt (name_cmp e.0 f.0)

tie : (r : Ordering) → not (is_lt r) && not (is_lt (ordering_reverse r)) ≡ is_eq r
tie Less = refl
tie Equal = refl
tie Greater = refl

tied : (q : Name) (h : Holding) (e : Name × Holding) → ties comes_before (q, h) e ≡ is_name q e.0
tied q h e = ap (λ r. not (is_lt (name_cmp q e.0)) && not (is_lt r)) (nat_list_cmp_total.antisymm e.0 q) ∙ tie (name_cmp q e.0)

-- what is held under a name is of the entries under it
get-tied : (q : Name) (h : Holding) (m n : PlainMap) (es : List (Name × Holding)) → finite.get m q ≡ finite.get n q → finite.get (with_entries m es) q ≡ finite.get (with_entries n (filter (ties comes_before (q, h)) es)) q
get-tied q h m n [] same = same
get-tied q h m n (e ∷ es) same =
    let more = finite.insert m e.0 e.1 in let rest = filter (ties comes_before (q, h)) es in
    elim (ties comes_before (q, h) e) as (λ t. ties comes_before (q, h) e ≡ t → finite.get (with_entries more es) q ≡ finite.get (with_entries n (cond t (e ∷ rest) rest)) q) [
      | true ↦ λ t. get-tied q h more (finite.insert n e.0 e.1) es (get-insert nat_list_cmp_total m e.0 e.1 q ∙ ap (cond (is_name q e.0) (Some e.1)) same ∙ sym (get-insert nat_list_cmp_total n e.0 e.1 q))
      | false ↦ λ t. get-tied q h more n es (get-insert nat_list_cmp_total m e.0 e.1 q ∙ ap (λ b. cond b (Some e.1) (finite.get m q)) (sym (tied q h e) ∙ t) ∙ same)
    ] refl

pub same-sorted : (xs ys : List (Name × Holding)) → IsStableBy comes_before xs ys → put_in_turn ys ≡ put_in_turn xs
same-sorted xs ys stable =
    same_held _ _ (λ q.
    get-tied q (Mark 0) finite.empty finite.empty ys refl
    ∙ ap (λ es. finite.get (put_in_turn es) q) (stable (q, Mark 0))
    ∙ sym (get-tied q (Mark 0) finite.empty finite.empty xs refl))
