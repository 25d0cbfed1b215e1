-- Lists in which each authority stands once, at its first place.
use Rattle.std.proofs.Common.{◌≡◌, List, [], ◌∷◌, ◌++◌, Bool, true, false, cond, not, ◌||◌, refl, ap, ◌∙◌, inl, inr, append-nil}
use Rattle.std.specs.Prelude.{filter}
use Rattle.std.specs.List.{list_any}
use Rattle.std.proofs.lemmas.Bool.{cases_Bool}
use Rattle.spiffe_doc.specs.declared.authority.Authority.{Authority}
use Rattle.spiffe_doc.specs.Equal.{authority_eq}
use Rattle.spiffe_doc.specs.Private.Equality.{authority_decides}
use Rattle.spiffe_doc.specs.Bundle.{is_among}
use Rattle.spiffe_doc.specs.Document.{distinct}

-- what is equal to the first is tested with it
any_others : (test : Authority → Bool) (x : Authority) (ys : List Authority) → (test x || list_any test (filter (λ y. not (authority_eq x y)) ys)) ≡ (test x || list_any test ys)
any_others test x [] = refl
any_others test x (y ∷ ys) = elim (cases_Bool (authority_eq x y)) [
  | inl same ↦
      let is : x ≡ y = (authority_decides x y).0 same in
      rw same (any_others test x ys ∙ rw (← is) (twice (test x) (list_any test ys)))
  | inr other ↦ rw other (through (test x) (test y) _ _ (any_others test x ys))
]
  where
    twice : (a b : Bool) → (a || b) ≡ (a || (a || b))
    twice true b = refl
    twice false b = refl

    through : (a b c d : Bool) → (a || c) ≡ (a || d) → (a || (b || c)) ≡ (a || (b || d))
    through true b c d h = refl
    through false true c d h = refl
    through false false c d h = h

-- some authority passes if and only if one at a first place does
pub list_any-firsts : (test : Authority → Bool) (xs : List Authority) → list_any test (distinct xs) ≡ list_any test xs
unfolding distinct
list_any-firsts test [] = refl
list_any-firsts test (x ∷ xs) = any_others test x (distinct xs) ∙ ap (λ b. test x || b) (list_any-firsts test xs)

filter_push : (test : Authority → Bool) (ys : List Authority) (a : Authority) → filter test (ys ++ a ∷ []) ≡ filter test ys ++ cond (test a) (a ∷ []) []
filter_push test [] a = refl
filter_push test (y ∷ ys) a = elim (cases_Bool (test y)) [
  | inl passes ↦ rw (passes, filter_push test ys a) refl
  | inr fails ↦ rw (fails, filter_push test ys a) refl
]

-- one more authority stands at the end, unless it is there
pub firsts_push : (xs : List Authority) (a : Authority) → distinct (xs ++ a ∷ []) ≡ cond (is_among xs a) (distinct xs) (distinct xs ++ a ∷ [])
unfolding distinct
firsts_push [] a = refl
firsts_push (x ∷ xs) a = elim (cases_Bool (is_among xs a)) [
  | inl there ↦ rw (firsts_push xs a, there) (or_true (authority_eq x a))
  | inr new ↦ elim (cases_Bool (authority_eq x a)) [
    | inl same ↦ rw (firsts_push xs a, new, filter_push, same, append-nil) refl
    | inr other ↦ rw (firsts_push xs a, new, filter_push, other) refl
  ]
]
  where
    or_true : (b : Bool) → x ∷ filter (λ y. not (authority_eq x y)) (distinct xs) ≡ cond (b || true) (x ∷ filter (λ y. not (authority_eq x y)) (distinct xs)) ((x ∷ filter (λ y. not (authority_eq x y)) (distinct xs)) ++ a ∷ [])
    or_true true = refl
    or_true false = refl
