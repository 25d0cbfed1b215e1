-- Texts of the elements of a list, put one after another.
use Rattle.std.proofs.Common.{◌≡◌, ℕ, ◌+◌, ◌<◌, ◌≤◌, List, [], ◌∷◌, ◌++◌, length, get_or, take, false, true, nat_le, Result, Ok, Err, sym, ap, ◌∙◌, arith, take_all, append_assoc}
use Rattle.std.specs.Prelude.{flat_map, OnOk}
use Rattle.std.proofs.lemmas.List.{take_more, flat_map_more}
use Rattle.std.proofs.lemmas.Bool.Decides.{nat_tests}

-- one text more
pub one_more_text : {X : Type 0} (text_of : X → List ℕ) (old between new : List ℕ) (xs : List X) (i : ℕ) (x : X) → i < length xs → x ≡ get_or xs i x
    → between ≡ old ++ flat_map text_of (take i xs) → new ≡ between ++ text_of x → new ≡ old ++ flat_map text_of (take (i + 1) xs)
one_more_text text_of old between new xs i x inside is before now =
    now ∙ ap (λ t. t ++ text_of x) before ∙ flat_map_more text_of old (take i xs) x
    ∙ ap (λ ys. old ++ flat_map text_of ys) (ap (λ y. take i xs ++ y ∷ []) is ∙ sym (take_more xs i x inside))

pub not_within : (a b : ℕ) → b < a → false ≡ nat_le a b
not_within a b h = grind (arith, nat_tests)

pub is_within : (a b : ℕ) → a ≤ b → true ≡ nat_le a b
is_within a b h = grind (arith, nat_tests)

pub whole_front : (xs : List ℕ) (n m : ℕ) → n ≡ length xs → n ≤ m → take n xs ≡ take m xs
whole_front xs n m is fits = take_all n xs (omega arith) ∙ sym (take_all m xs (omega arith))

-- ---- one text and then another

-- what follows on success
pub on_ok : {A E P Q : Type 0} (r : Result A E) → (P → Q) → OnOk r P → OnOk r Q
on_ok (Ok value) step h = step h
on_ok (Err e) step h = tt

pub and_then : (old between new first second : List ℕ) → between ≡ old ++ first → new ≡ between ++ second → new ≡ old ++ (first ++ second)
and_then old between new first second one two = two ∙ ap (λ text. text ++ second) one ∙ append_assoc old first second
