-- The values under one name.
use Rattle.std.proofs.Common.{◌≡◌, ℕ, ◌+◌, ◌<◌, List, [], ◌∷◌, ◌++◌, length, take, drop, get_or, bytes_eq, true, cond, inl, inr, Option, Some, None, refl, sym, ap, ◌∙◌}
use Rattle.std.specs.Borrow.{Bor}
use Rattle.std.specs.Prelude.{option_map}
use Rattle.std.specs.Option.{option_to_list}
use Rattle.std.proofs.lemmas.Bool.{cases_Bool}
use Rattle.std.proofs.lemmas.List.{take_more, take-append-drop, drop_more}
use Rattle.json.specs.Json.{Json}
use Rattle.json.specs.Value.{value_view, members_view}
use Rattle.json.specs.declared.value.Value.{Value}
use Rattle.dump_views.specs.Import.{values_named, only_one}

-- the value that a reference tells
abbrev pub told : {A : Type 0} → Option (Bor (Value A)) → Option Json
told found = option_map (λ value. value_view value.now) found

pub only_of : {X : Type 0} (x : Option X) → only_one (option_to_list x) ≡ x
only_of None = refl
only_of (Some x) = refl

module _ {A : Type 0} (name : List ℕ) where
  values-append : (xs ys : List (Bor (List ℕ) × Value A)) → values_named name (members_view (xs ++ ys)) ≡ values_named name (members_view xs) ++ values_named name (members_view ys)
  values-append [] ys = refl
  values-append (x ∷ xs) ys = elim (cases_Bool (bytes_eq x.0.now name)) [
    | inl same ↦ rw same (ap (λ vs. value_view x.1 ∷ vs) (values-append xs ys))
    | inr other ↦ rw other (values-append xs ys)
  ]

  module _ (ms : List (Bor (List ℕ) × Value A)) (i : ℕ) (m : Bor (List ℕ) × Value A) (inside : i < length ms) (at : m ≡ get_or ms i m) where
    -- one member more
    pub values_more : values_named name (members_view (take (i + 1) ms)) ≡ values_named name (members_view (take i ms)) ++ cond (bytes_eq m.0.now name) (value_view m.1 ∷ []) []
    values_more = ap (λ xs. values_named name (members_view xs)) (take_more ms i m inside ∙ ap (λ x. take i ms ++ x ∷ []) (sym at)) ∙ values-append (take i ms) (m ∷ [])

    -- a second value
    pub two_named : (v : Json) → bytes_eq m.0.now name ≡ true → v ∷ [] ≡ values_named name (members_view (take i ms)) → None ≡ only_one (values_named name (members_view ms))
    two_named v same one =
        let rest = drop (i + 1) ms in
        let split : take i ms ++ m ∷ rest ≡ ms = ap (λ xs. take i ms ++ xs) (ap (λ x. x ∷ rest) at ∙ sym (drop_more ms i m inside)) ∙ take-append-drop i ms in
        let second : values_named name (members_view (m ∷ rest)) ≡ value_view m.1 ∷ values_named name (members_view rest) = rw same refl in
        let all : values_named name (members_view ms) ≡ v ∷ value_view m.1 ∷ values_named name (members_view rest) =
        ap (λ xs. values_named name (members_view xs)) (sym split) ∙ values-append (take i ms) (m ∷ rest) ∙ (λ j. sym one j ++ second j) in
        rw all refl
