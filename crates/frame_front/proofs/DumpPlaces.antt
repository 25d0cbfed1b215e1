-- A dump is wrong at one place.
use Rattle.std.proofs.Common.{◌≡◌, ℕ, ◌<◌, ◌≤◌, List, [], ◌∷◌, ◌++◌, length, arith, refl, sym, inl, inr, subst}
use Rattle.std.specs.Prelude.{Option, Some, None}
use Rattle.std.proofs.lemmas.Bool.{cases_lt}
use Rattle.map_core.specs.Name.{Name}
use Rattle.frame_front.specs.Dump.{Domains, ReadsItems, IsDumpFront, IsBadDump}
use Rattle.map_core.specs.Laws.{Ascends}
use Rattle.wire.proofs.FrameLemmas.{frames_unique}
use Rattle.frame_front.proofs.DomainLists.{cons_head, cons_tail}

-- the first of some domains that ascend
first_items : (ps qs : List (List ℕ)) (last : Option Name) (items : Domains) → ReadsItems (ps ++ qs) items → Ascends last items
    → (front : Domains) × ReadsItems ps front × Ascends last front × (length front ≤ length items)
first_items [] qs last items read ascending = ([], tt, tt, omega arith)
first_items (p ∷ ps) qs last [] read ascending = absurd read
first_items (p ∷ ps) qs last (i ∷ is) read ascending =
    let rest = first_items ps qs (Some i.0) is read.1 ascending.1 in
    (i ∷ rest.0, (read.0, rest.1), (ascending.0, rest.2), omega (arith, rest.3))

-- what a dump may begin with may begin with its own first frames
shorter_front : (ps qs : List (List ℕ)) → IsDumpFront (ps ++ qs) → IsDumpFront ps
shorter_front [] qs good = tt
shorter_front (head ∷ ps) qs good =
    let first = first_items ps qs None good.1 good.3 good.4 in
    (good.0, first.0, good.2, first.1, first.2, omega (arith, first.3, good.5))

-- if two fronts of one list are not as long, the longer one has the first element that the shorter one leaves
longer_front : {X : Type 0} (xs us ys vs : List X) → xs ++ us ≡ ys ++ vs → length xs < length ys
    → (x : X) × (more : List X) × (tail : List X) × (us ≡ x ∷ more) × (ys ≡ (xs ++ x ∷ []) ++ tail)
longer_front [] us [] vs same less = absurd (omega (arith, less))
longer_front [] us (y ∷ ys) vs same less = (y, ys ++ vs, ys, same, refl)
longer_front (x ∷ xs) us [] vs same less = absurd (omega (arith, less))
longer_front (x ∷ xs) us (y ∷ ys) vs same less =
    let rest = longer_front xs us ys vs (cons_tail x y _ _ same) (omega (arith, less)) in
    let heads : y ≡ x = sym (cons_head x y _ _ same) in
    (rest.0, rest.1, rest.2, rest.3, λ i. heads i ∷ rest.4 i)

not_before : (dump : List ℕ) (p q : ℕ) → IsBadDump dump p → IsBadDump dump q → p < q → ⊥
not_before dump p q a b less =
    let same = frames_unique dump (a.front ++ a.others) (b.front ++ b.others) a.rest b.rest a.framed b.framed in
    let cut = longer_front a.front a.others b.front b.others same.0 (omega (arith, a.placed, b.placed, less)) in
    a.bad cut.0 cut.1 cut.3 (shorter_front (a.front ++ cut.0 ∷ []) cut.2 (subst IsDumpFront cut.4 b.good))

pub one_place : (dump : List ℕ) (p q : ℕ) → IsBadDump dump p → IsBadDump dump q → p ≡ q
one_place dump p q a b = elim (cases_lt p q) [
  | inl less ↦ absurd (not_before dump p q a b less)
  | inr past ↦ elim (cases_lt q p) [
    | inl less ↦ absurd (not_before dump q p b a less)
    | inr other ↦ omega (arith, past, other)
  ]
]
