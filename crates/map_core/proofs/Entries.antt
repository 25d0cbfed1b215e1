-- Entries in order, inserted into a map in turn.
use Rattle.std.proofs.Common.{◌≡◌, T, ◌&&◌, Bool, true, false, cond, List, [], ◌∷◌, ◌++◌, append-nil, Option, Some, None, refl, sym, ap, ◌∙◌, arith}
use Rattle.spiffe_doc.specs.Authority.{BundleValue}
use Rattle.std.specs.Ordering.{is_eq, is_lt}
use Rattle.std.specs.declared.cmp.Ordering.{Ordering}
use Rattle.std.specs.Cmp.Lexicographic.{nat_list_cmp_total}
use Rattle.std.specs.FinMap.Entries.{below_all}
use Rattle.std.specs.FinMap.{find, get-from_entries, get-from_sorted, entries-from_sorted, get-entries, get-empty, get-insert, is_sorted}
use Rattle.std.specs.FinMap as finite
use Rattle.map_core.specs.declared.held.Holding.{Holding}
use Rattle.map_core.specs.Name.{Name, name_cmp}
use Rattle.map_core.specs.PlainMap.{PlainMap, union}
use Rattle.map_core.specs.Private.Turns.{with_entries, put_in_turn}
use Rattle.map_core.proofs.Maps.{is_name, same_name, same_held, or_else, get-join}

-- ---- lists in order
pub first : (a b : Bool) → T (a && b) → T a
first a b p = grind arith

pub second : (a b : Bool) → T (a && b) → T b
second a b p = grind arith

pub both : (a b : Bool) → T a → T b → T (a && b)
both a b p q = grind arith

not_tied : (o : Ordering) → T (is_lt o) → is_eq o ≡ false
not_tied o p = grind arith

-- a name below all others is not found among them
pub find-below : (d : Name) (es : List (Name × Holding)) → T (below_all name_cmp d es) → find name_cmp d es ≡ None
find-below d [] h = refl
find-below d (e ∷ es) h = ap (λ b. cond b (Some e.1) (find name_cmp d es)) (not_tied _ (first _ _ h)) ∙ find-below d es (second _ _ h)

-- ---- entries inserted in turn
pub with_more : (m : PlainMap) (es fs : List (Name × Holding)) → with_entries m (es ++ fs) ≡ with_entries (with_entries m es) fs
with_more m [] fs = refl
with_more m (e ∷ es) fs = with_more (finite.insert m e.0 e.1) es fs

-- what the first entry of a list in order adds
adds : (m : PlainMap) (e : Name × Holding) (es : List (Name × Holding)) (q : Name) → T (below_all name_cmp e.0 es)
    → or_else (find name_cmp q es) (cond (is_name q e.0) (Some e.1) (finite.get m q)) ≡ or_else (cond (is_name q e.0) (Some e.1) (find name_cmp q es)) (finite.get m q)
adds m e es q below =
    let none : is_name q e.0 ≡ true → find name_cmp q es ≡ None = (λ t. ap (λ x. find name_cmp x es) (same_name q e.0 t) ∙ find-below e.0 es below) in
    other_first (is_name q e.0) e.1 (find name_cmp q es) (finite.get m q) none
  where
    other_first : (t : Bool) (h : Holding) (x y : Option Holding) → (t ≡ true → x ≡ None) → or_else x (cond t (Some h) y) ≡ or_else (cond t (Some h) x) y
    other_first t h x y none = grind arith

pub get-in_turn : (m : PlainMap) (es : List (Name × Holding)) (q : Name) → T (is_sorted name_cmp es) → finite.get (with_entries m es) q ≡ or_else (find name_cmp q es) (finite.get m q)
get-in_turn m [] q h = refl
get-in_turn m (e ∷ es) q h =
    get-in_turn (finite.insert m e.0 e.1) es q (second _ _ h)
    ∙ ap (or_else (find name_cmp q es)) (get-insert nat_list_cmp_total m e.0 e.1 q)
    ∙ adds m e es q (first _ _ h)

-- the entries of a map, inserted into another one
pub with_map : (m p : PlainMap) → with_entries m (finite.entries p) ≡ union m p
with_map m p = same_held _ _ (λ q. get-in_turn m (finite.entries p) q (finite.entries_sorted p) ∙ ap (λ x. or_else x (finite.get m q)) (sym (get-entries p q)) ∙ sym (get-join m p q))

pub or_none : (x y : Option Holding) → y ≡ None → or_else x y ≡ x
or_none x y e = grind arith

-- entries in order, inserted in turn, are the map of them
pub in_turn : (es : List (Name × Holding)) → T (is_sorted name_cmp es) → put_in_turn es ≡ finite.from_entries es
in_turn es h = same_held _ _ (λ q. get-in_turn finite.empty es q h ∙ or_none _ _ (get-empty name_cmp q) ∙ sym (get-from_entries nat_list_cmp_total es q))

pub entries_sorted : (es : List (Name × Holding)) → T (is_sorted name_cmp es) → finite.entries (finite.from_entries {R = name_cmp} es) ≡ es
entries_sorted es h =
    ap finite.entries (same_held (finite.from_entries es) (finite.from_sorted es) (λ q. get-from_entries nat_list_cmp_total es q ∙ sym (get-from_sorted name_cmp es q h)))
    ∙ entries-from_sorted name_cmp es h

-- with nothing left to push, the pairs are all
pub all_pushed : (pairs rest all : List (Name × BundleValue)) → pairs ++ rest ≡ all → rest ≡ [] → pairs ≡ all
all_pushed pairs rest all e none = sym (append-nil pairs) ∙ ap (λ x. pairs ++ x) (sym none) ∙ e
