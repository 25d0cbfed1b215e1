-- Maps put together in turn.
use Rattle.std.proofs.Common.{◌≡◌, ◌<◌, ◌≤◌, List, [], ◌∷◌, ◌++◌, length, get_or, Option, arith, sym, ap, ◌∙◌}
use Rattle.std.proofs.lemmas.List.Sums.{fold-append}
use Rattle.std.specs.FinMap.{get-empty}
use Rattle.std.specs.FinMap as finite
use Rattle.map_core.specs.declared.held.Holding.{Holding}
use Rattle.map_core.specs.Name.{Name, name_cmp}
use Rattle.map_core.specs.PlainMap.{PlainMap, union}
use Rattle.map_core.specs.Union.{put_together}
use Rattle.map_core.specs.Private.Turns.{put_in_turn}
use Rattle.map_core.proofs.Maps.{same_held, or_else, get-join}
use Rattle.map_core.proofs.Entries.{with_more, with_map, or_none}

in_a_row : (x y z : Option Holding) → or_else x (or_else y z) ≡ or_else (or_else x y) z
in_a_row x y z = grind arith

union-assoc : (o m p : PlainMap) → union (union o m) p ≡ union o (union m p)
union-assoc o m p =
    same_held _ _ (λ q.
    get-join (union o m) p q ∙ ap (or_else (finite.get p q)) (get-join o m q)
    ∙ in_a_row (finite.get p q) (finite.get m q) (finite.get o q)
    ∙ ap (λ x. or_else x (finite.get o q)) (sym (get-join m p q)) ∙ sym (get-join o (union m p) q))

-- one map by itself
pub union-empty : (m : PlainMap) → union finite.empty m ≡ m
union-empty m = same_held _ _ (λ q. get-join finite.empty m q ∙ or_none _ _ (get-empty name_cmp q))

pub put_more : (maps : List PlainMap) (m : PlainMap) → put_together (maps ++ m ∷ []) ≡ union (put_together maps) m
put_more maps m = fold-append union finite.empty maps (m ∷ [])

-- the entries of two maps, pushed one after another
pub pushed : (es : List (Name × Holding)) (m p : PlainMap) → put_in_turn ((es ++ finite.entries m) ++ finite.entries p) ≡ union (put_in_turn es) (union m p)
pushed es m p =
    with_more finite.empty (es ++ finite.entries m) (finite.entries p)
    ∙ with_map _ p
    ∙ ap (λ x. union x p) (with_more finite.empty es (finite.entries m) ∙ with_map _ m)
    ∙ union-assoc (put_in_turn es) m p

-- ---- lists of maps
pub only_map : (maps : List PlainMap) (m : PlainMap) → 1 ≤ length maps → length maps < 2 → m ≡ get_or maps 0 m → maps ≡ m ∷ []
only_map [] m some few is = absurd (omega arith)
only_map (x ∷ []) m some few is = ap (λ y. y ∷ []) (sym is)
only_map (x ∷ y ∷ more) m some few is = absurd (omega arith)
