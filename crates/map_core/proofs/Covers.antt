-- Maps put over one another, of which only the bundles are told.
use Rattle.std.proofs.Common.{◌≡◌, Bool, true, false, cond, List, [], ◌∷◌, ◌++◌, filter, not, Option, Some, None, is_some, refl, sym, ap, ◌∙◌, arith}
use Rattle.std.specs.Cmp.Lexicographic.{nat_list_cmp_total}
use Rattle.std.specs.FinMap.{get-empty, get-insert}
use Rattle.std.specs.FinMap as finite
use Rattle.map_core.specs.declared.held.Holding.{Holding}
use Rattle.map_core.specs.Name.{Name, name_cmp}
use Rattle.map_core.specs.PlainMap.{PlainMap, union}
use Rattle.map_core.specs.Private.Held.{is_bundle, HasNoBundle, only_bundle, HaveSameBundles}
use Rattle.map_core.specs.Private.Turns.{with_entries, put_in_turn}
use Rattle.map_core.proofs.Maps.{is_name, same_name, or_else, get-join}
use Rattle.map_core.proofs.Entries.{with_more, with_map}
use Rattle.map_core.proofs.Unions.{pushed}

-- whether the map has nothing under the entry's name
abbrev pub is_unmarked : PlainMap → Name × Holding → Bool
is_unmarked m e = not (is_some (finite.get m e.0))

-- an entry that is taken out is not seen where the map has its name
taken : (t g : Bool) (h x y : Option Holding) → (t ≡ true → g ≡ true) → y ≡ cond g None x → y ≡ cond g None (cond t h x)
taken t g h x y at is = grind arith

-- one that stays is seen where the map has not
left : (t g : Bool) (h x y : Option Holding) → (t ≡ true → g ≡ false) → y ≡ cond g None x → cond t h y ≡ cond g None (cond t h x)
left t g h x y at is = grind arith

one_less : (m : PlainMap) (e : Name × Holding) (a b : PlainMap) (q : Name) → is_some (finite.get m e.0) ≡ true
    → finite.get b q ≡ cond (is_some (finite.get m q)) None (finite.get a q)
    → finite.get b q ≡ cond (is_some (finite.get m q)) None (finite.get (finite.insert a e.0 e.1) q)
one_less m e a b q there is =
    taken (is_name q e.0) (is_some (finite.get m q)) (Some e.1) (finite.get a q) (finite.get b q)
    (λ t. ap (λ (d : Name). is_some (finite.get m d)) (same_name q e.0 t) ∙ there) is
    ∙ ap (cond (is_some (finite.get m q)) None) (sym (get-insert nat_list_cmp_total a e.0 e.1 q))

one_more : (m : PlainMap) (e : Name × Holding) (a b : PlainMap) (q : Name) → is_some (finite.get m e.0) ≡ false
    → finite.get b q ≡ cond (is_some (finite.get m q)) None (finite.get a q)
    → finite.get (finite.insert b e.0 e.1) q ≡ cond (is_some (finite.get m q)) None (finite.get (finite.insert a e.0 e.1) q)
one_more m e a b q none is =
    get-insert nat_list_cmp_total b e.0 e.1 q
    ∙ left (is_name q e.0) (is_some (finite.get m q)) (Some e.1) (finite.get a q) (finite.get b q)
    (λ t. ap (λ (d : Name). is_some (finite.get m d)) (same_name q e.0 t) ∙ none) is
    ∙ ap (cond (is_some (finite.get m q)) None) (sym (get-insert nat_list_cmp_total a e.0 e.1 q))

get-unmarked : (m : PlainMap) (es : List (Name × Holding)) (a b : PlainMap)
    → ((q : Name) → finite.get b q ≡ cond (is_some (finite.get m q)) None (finite.get a q))
    → (q : Name) → finite.get (with_entries b (filter (is_unmarked m) es)) q ≡ cond (is_some (finite.get m q)) None (finite.get (with_entries a es) q)
get-unmarked m [] a b is q = is q
get-unmarked m (e ∷ es) a b is q =
    elim (is_some (finite.get m e.0)) as (λ t. is_some (finite.get m e.0) ≡ t → finite.get (with_entries b (cond (not t) (e ∷ filter (is_unmarked m) es) (filter (is_unmarked m) es))) q ≡ cond (is_some (finite.get m q)) None (finite.get (with_entries a (e ∷ es)) q)) [
      | true ↦ λ t. get-unmarked m es (finite.insert a e.0 e.1) b (λ p. one_less m e a b p t (is p)) q
      | false ↦ λ t. get-unmarked m es (finite.insert a e.0 e.1) (finite.insert b e.0 e.1) (λ p. one_more m e a b p t (is p)) q
    ] refl

in_none : (g : Bool) (x : Option Holding) → x ≡ None → x ≡ cond g None x
in_none g x is = grind arith

-- a mark is told as nothing is
only-covered : (b m x : Option Holding) → is_bundle m ≡ false → only_bundle (or_else b (cond (is_some m) None x)) ≡ only_bundle (or_else (or_else b m) x)
only-covered b m x e = grind arith

-- bundles over the entries that no mark takes out
pub covered : (es : List (Name × Holding)) (m p : PlainMap) → HasNoBundle m
    → HaveSameBundles (put_in_turn (filter (is_unmarked m) es ++ finite.entries p)) (union (put_in_turn es) (union m p))
covered es m p marks q =
    let kept = put_in_turn (filter (is_unmarked m) es) in let old = put_in_turn es in
    ap (λ (x : PlainMap). only_bundle (finite.get x q)) (with_more finite.empty (filter (is_unmarked m) es) (finite.entries p) ∙ with_map kept p)
    ∙ ap only_bundle (get-join kept p q ∙ ap (or_else (finite.get p q)) (get-unmarked m es finite.empty finite.empty (λ d. in_none _ _ (get-empty name_cmp d)) q))
    ∙ only-covered (finite.get p q) (finite.get m q) (finite.get old q) (marks q)
    ∙ ap (λ x. only_bundle (or_else x (finite.get old q))) (sym (get-join m p q))
    ∙ ap only_bundle (sym (get-join old (union m p) q))

-- bundles over marks over the entries
pub covered_by_both : (es : List (Name × Holding)) (m p : PlainMap)
    → HaveSameBundles (put_in_turn ((es ++ finite.entries m) ++ finite.entries p)) (union (put_in_turn es) (union m p))
covered_by_both es m p q = ap (λ (x : PlainMap). only_bundle (finite.get x q)) (pushed es m p)

over : (x y z : Option Holding) → only_bundle y ≡ only_bundle z → only_bundle (or_else x y) ≡ only_bundle (or_else x z)
over x y z e = grind arith

-- what is put over maps with the same bundles
pub same-union : (n m o p : PlainMap) → HaveSameBundles n (union m p) → HaveSameBundles m o → HaveSameBundles n (union o p)
same-union n m o p covers same q =
    covers q ∙ ap only_bundle (get-join m p q) ∙ over (finite.get p q) (finite.get m q) (finite.get o q) (same q) ∙ ap only_bundle (sym (get-join o p q))

pub same-view : (es fs : List (Name × Holding)) (m p : PlainMap) → es ≡ fs → m ≡ p → HaveSameBundles (put_in_turn fs) m → HaveSameBundles (put_in_turn es) p
same-view es fs m p is shows same q =
    ap (λ x. only_bundle (finite.get (put_in_turn x) q)) is ∙ same q ∙ ap (λ (x : PlainMap). only_bundle (finite.get x q)) shows
