-- The places of points in the driver's list, when a point is gained and when one is given up.
use Rattle.std.proofs.Common.{◌≡◌, ◌≢◌, ℕ, zero, suc, ◌<◌, ◌≤◌, ◌==◌, not, ◌&&◌, Bool, true, false, cond, List, [], ◌∷◌, ◌++◌, length, get_or, set, length-append, Option, Some, None, arith, refl, sym, ap, ◌∙◌}
use Rattle.std.proofs.lemmas.Bool.Decides.{nat_tests}
use Rattle.std.proofs.lemmas.Grind.{elements}
use Rattle.std.proofs.lemmas.List.{map-append, get_or_past}
use Rattle.std.specs.Prelude.{filter}
use Rattle.step_core.specs.Run.{Point, update_points, numbers}
use Rattle.step_core.specs.Private.Driver.{positions, holds, IsPlaced, update_positions, place_after}
use Rattle.step_core.proofs.Points.{numbers-filter}

-- ---- one entry of the list
gained : (xs : List (Option ℕ)) (x : Option ℕ) (i : ℕ) → get_or (xs ++ x ∷ []) i None ≡ cond (i == length xs) x (get_or xs i None)
gained xs x i = grind (arith, elements, nat_tests, get_or_past, length-append {A = Option ℕ})

cleared : (xs : List (Option ℕ)) (k i : ℕ) → get_or (set xs k None) i None ≡ cond (i == k) None (get_or xs i None)
cleared xs k i = grind (arith, elements, nat_tests, get_or_past)

entry : (had has : Bool) (number place : ℕ) (xs : List (Option ℕ)) (i : ℕ) → let old = get_or xs i None in
    get_or (update_positions had has number place xs) i None ≡ cond had (cond has old (cond (i == place) None old)) (cond has (cond (i == length xs) (Some number) old) old)
entry false false number place xs i = refl
entry false true number place xs i = gained xs (Some number) i
entry true false number place xs i = cleared xs place i
entry true true number place xs i = refl

-- ---- the numbers in the list
pub taken-push : (xs : List (Option ℕ)) (q : ℕ) → positions (xs ++ Some q ∷ []) ≡ positions xs ++ q ∷ []
taken-push [] q = refl
taken-push (None ∷ xs) q = taken-push xs q
taken-push (Some x ∷ xs) q = ap (λ (r : List ℕ). x ∷ r) (taken-push xs q)

pub taken-skip : (xs : List (Option ℕ)) → positions (xs ++ None ∷ []) ≡ positions xs
taken-skip [] = refl
taken-skip (None ∷ xs) = taken-skip xs
taken-skip (Some x ∷ xs) = ap (λ (r : List ℕ). x ∷ r) (taken-skip xs)

abbrev dropped : ℕ → List ℕ → List ℕ
dropped number xs = filter (λ q. not (q == number)) xs

none_dropped : (xs : List (Option ℕ)) (number : ℕ) → ((i : ℕ) → holds (get_or xs i None) number ≡ false) → positions xs ≡ dropped number (positions xs)
none_dropped [] number h = refl
none_dropped (None ∷ xs) number h = none_dropped xs number (λ i. h (suc i))
none_dropped (Some x ∷ xs) number h = grind (arith, none_dropped xs number (λ i. h (suc i)), h 0)

after_first : (i : ℕ) → (suc i == 0) ≡ false
after_first i = grind (arith, nat_tests)

both_next : (i k : ℕ) → (suc i == suc k) ≡ (i == k)
both_next i k = grind (arith, nat_tests)

cleared_taken : (xs : List (Option ℕ)) (number place : ℕ) → ((i : ℕ) → holds (get_or xs i None) number ≡ (i == place)) → positions (set xs place None) ≡ dropped number (positions xs)
cleared_taken [] number place h = refl
cleared_taken (None ∷ xs) number zero h = none_dropped xs number (λ i. h (suc i) ∙ after_first i)
cleared_taken (Some x ∷ xs) number zero h = grind (arith, nat_tests, none_dropped xs number (λ i. h (suc i) ∙ after_first i), h 0)
cleared_taken (None ∷ xs) number (suc place) h = cleared_taken xs number place (λ i. h (suc i) ∙ both_next i place)
cleared_taken (Some x ∷ xs) number (suc place) h = grind (arith, nat_tests, cleared_taken xs number place (λ i. h (suc i) ∙ both_next i place), h 0)

-- the numbers are those of the run's points
pub repointed_numbers : (had has : Bool) (xs : List (Option ℕ)) (place : ℕ) (p : Point) (ps : List Point) → IsPlaced xs p.number had place → positions xs ≡ numbers ps
    → positions (update_positions had has p.number place xs) ≡ numbers (update_points had has p ps)
repointed_numbers false false xs place p ps h is = is
repointed_numbers false true xs place p ps h is = taken-push xs p.number ∙ ap (λ (r : List ℕ). r ++ p.number ∷ []) is ∙ sym (map-append (λ (x : Point). x.number) ps (p ∷ []))
repointed_numbers true false xs place p ps h is = cleared_taken xs p.number place h ∙ ap (dropped p.number) is ∙ sym (numbers-filter (λ q. not (q == p.number)) ps)
repointed_numbers true true xs place p ps h is = is

-- ---- where an operation has its point
own_entry : (had has : Bool) (number place size i : ℕ) (x y : Option ℕ) → y ≡ cond had (cond has x (cond (i == place) None x)) (cond has (cond (i == size) (Some number) x) x)
    → holds x number ≡ (had && (i == place)) → holds y number ≡ (has && (i == cond had place (cond has size place)))
own_entry had has number place size i x y is own = grind (arith, nat_tests)

place_is : (had has : Bool) (place : ℕ) (xs : List (Option ℕ)) → place_after had has place xs ≡ cond had place (cond has (length xs) place)
place_is had has place xs = grind arith

pub own_placed : (had has : Bool) (xs : List (Option ℕ)) (number place : ℕ) → IsPlaced xs number had place → IsPlaced (update_positions had has number place xs) number has (place_after had has place xs)
own_placed had has xs number place h i =
    own_entry had has number place (length xs) i (get_or xs i None) _ (entry had has number place xs i) (h i) ∙ ap (λ k. has && (i == k)) (sym (place_is had has place xs))

other_entry : (had has t : Bool) (number q place size i : ℕ) (x y : Option ℕ) → y ≡ cond had (cond has x (cond (i == place) None x)) (cond has (cond (i == size) (Some number) x) x)
    → number ≢ q → (size ≤ i → x ≡ None) → holds x number ≡ (had && (i == place)) → holds x q ≡ t → holds y q ≡ t
other_entry had has t number q place size i x y is ne none own was = grind (arith, nat_tests)

pub other_placed : (had has : Bool) (xs : List (Option ℕ)) (number place q : ℕ) (h : Bool) (k : ℕ) → number ≢ q → IsPlaced xs number had place → IsPlaced xs q h k
    → IsPlaced (update_positions had has number place xs) q h k
other_placed had has xs number place q h k ne own is i =
    other_entry had has (h && (i == k)) number q place (length xs) i (get_or xs i None) _ (entry had has number place xs i) ne (λ l. get_or_past xs i None l) (own i) (is i)

-- ---- all numbers are below the count
abbrev pub AreKnown : List (Option ℕ) → ℕ → Type 0
AreKnown xs count = (i q : ℕ) → holds (get_or xs i None) q ≡ true → q < count

known_entry : (had has : Bool) (number q place size count i : ℕ) (x y : Option ℕ) → y ≡ cond had (cond has x (cond (i == place) None x)) (cond has (cond (i == size) (Some number) x) x)
    → number < count → (holds x q ≡ true → q < count) → holds y q ≡ true → q < count
known_entry had has number q place size count i x y is l was now = grind (arith, nat_tests)

pub still_known : (had has : Bool) (xs : List (Option ℕ)) (number place count : ℕ) → number < count → AreKnown xs count → AreKnown (update_positions had has number place xs) count
still_known had has xs number place count l h i q = known_entry had has number q place (length xs) count i (get_or xs i None) _ (entry had has number place xs i) l (h i q)

-- a new operation has no point
pub new_unplaced : (xs : List (Option ℕ)) (count place : ℕ) → AreKnown xs count → IsPlaced xs count false place
new_unplaced xs count place h i = let known : holds (get_or xs i None) count ≡ true → count < count = h i count in grind (arith, known)
