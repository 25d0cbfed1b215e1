-- Lemmas on authorities that are among others.
use Rattle.std.proofs.Common.{◌≡◌, ◌<◌, ◌+◌, ◌&&◌, ◌==◌, ℕ, List, [], ◌∷◌, Bool, true, false, cond, not, Some, arith, refl, ap, ◌∙◌, length, inl, inr}
use Rattle.std.specs.Prelude.{slice_get}
use Rattle.std.specs.List.{list_all}
use Rattle.std.proofs.lemmas.Bool.Decides.{nat_tests}
use Rattle.std.proofs.lemmas.List.Folds.{list_any_at}
use Rattle.std.proofs.lemmas.List.Sums.{sum_by-cons}
use Rattle.std.proofs.lemmas.Option.{get_or_from_slice_get, slice_get_cases}
use Rattle.spiffe_doc.specs.declared.authority.Authority.{Authority}
use Rattle.spiffe_doc.specs.Bundle.{is_x509, is_among}
use Rattle.spiffe_doc.specs.Equal.{authority_eq}
use Rattle.dump_views.specs.ChangeLines.{x509_beyond, jwt_beyond}

-- what stands at a place is among them
pub among_at : (these : List Authority) (place : ℕ) (there authority : Authority) → slice_get these place ≡ Some there → authority_eq there authority ≡ true → is_among these authority ≡ true
among_at these place there authority at same = elim (slice_get_cases these place).1 [
  | inl found ↦ let within : place < length these = found.1 in list_any_at (λ other. authority_eq other authority) these place there within (ap (λ other. authority_eq other authority) (get_or_from_slice_get these place there there at) ∙ same)
  | inr past ↦ absurd (let none = past.1 in cc)
]

-- whether one more is missing
missing_step : (x m l : Bool) (n k : ℕ) → ((n == 0) && (k == 0)) ≡ l → ((cond (x && not m) 1 0 + n == 0) && (cond (not x && not m) 1 0 + k == 0)) ≡ (m && l)
missing_step true true l n k h = grind (arith, nat_tests)
missing_step true false l n k h = grind (arith, nat_tests)
missing_step false true l n k h = grind (arith, nat_tests)
missing_step false false l n k h = grind (arith, nat_tests)

-- none of these is missing from the others if and only if all are among them
pub none_beyond : (others these : List Authority) → ((x509_beyond others these == 0) && (jwt_beyond others these == 0)) ≡ list_all (is_among others) these
none_beyond others [] = refl
none_beyond others (a ∷ these) =
    (λ i. (sum_by-cons (λ x. cond (is_x509 x && not (is_among others x)) 1 0) a these i == 0) && (sum_by-cons (λ x. cond (not (is_x509 x) && not (is_among others x)) 1 0) a these i == 0))
    ∙ missing_step (is_x509 a) (is_among others a) (list_all (is_among others) these) (x509_beyond others these) (jwt_beyond others these) (none_beyond others these)
