-- Which of the domains have one of some names.
use Rattle.std.proofs.Common.{◌≡◌, ℕ, zero, suc, ◌<◌, length, get_or, arith, List, [], ◌∷◌, ◌++◌, bytes_eq, Bool, true, false, ◌||◌, inl, inr, refl, sym, ap, ◌∙◌}
use Rattle.std.specs.Cmp.Lexicographic.{bytes_decides}
use Rattle.std.proofs.lemmas.Bool.{cases_Bool}
use Rattle.frame_front.specs.Dump.{Domains}
use Rattle.dump_views.specs.Choice.{is_named, names_of, chosen, AreThere, IsFirstMissing}

or_swap : (a b c : Bool) → (a || (b || c)) ≡ (b || (a || c))
or_swap true true c = refl
or_swap true false c = refl
or_swap false b c = refl

-- one name more, at the end
pub is_named-one : (names : List (List ℕ)) (name other : List ℕ) → is_named (names ++ name ∷ []) other ≡ (bytes_eq name other || is_named names other)
is_named-one [] name other = refl
is_named-one (first ∷ names) name other =
    ap (λ b. bytes_eq first other || b) (is_named-one names name other) ∙ or_swap (bytes_eq first other) (bytes_eq name other) (is_named names other)

-- a name that is wanted is that of a domain that is kept if and only if it is that of a domain
pub kept_name : (names : List (List ℕ)) (name : List ℕ) (items : Domains) → is_named names name ≡ true
    → is_named (names_of (chosen names items)) name ≡ is_named (names_of items) name
kept_name names name [] wanted = refl
kept_name names name (item ∷ items) wanted = elim (cases_Bool (is_named names item.0)) [
  | inl kept ↦ rw kept (ap (λ b. bytes_eq item.0 name || b) (kept_name names name items wanted))
  | inr left ↦ rw left (kept_name names name items wanted ∙ elim (cases_Bool (bytes_eq item.0 name)) [
    | inl same ↦ let is : item.0 ≡ name = (bytes_decides item.0 name).0 same in cc (sym left ∙ ap (is_named names) is ∙ wanted)
    | inr other ↦ rw other refl
  ])
]

or_true : (b : Bool) → (b || true) ≡ true
or_true true = refl
or_true false = refl

named_at : (names : List (List ℕ)) (k : ℕ) (d : List ℕ) → k < length names → is_named names (get_or names k d) ≡ true
named_at [] k d inside = absurd (omega (arith, inside))
named_at (name ∷ names) zero d inside = ap (λ b. b || is_named names name) ((bytes_decides name name).1 refl)
named_at (name ∷ names) (suc k) d inside =
    ap (λ b. bytes_eq name (get_or names k d) || b) (named_at names k d (omega (arith, inside))) ∙ or_true (bytes_eq name (get_or names k d))

pub missing_too : (names : List (List ℕ)) (items : Domains) (place : ℕ) → IsFirstMissing names (chosen names items) place → IsFirstMissing names items place
missing_too names items place first = record {
  inside = first.inside;
  missing = sym (kept_name names (get_or names place []) items (named_at names place [] first.inside)) ∙ first.missing;
  before = λ k less.
      let inside : k < length names = omega (arith, less, first.inside) in
      sym (kept_name names (get_or names k []) items (named_at names k [] inside)) ∙ first.before k less;
}

pub there_too : (names : List (List ℕ)) (items : Domains) → AreThere names (chosen names items) → AreThere names items
there_too names items there = λ k d inside. sym (kept_name names (get_or names k d) items (named_at names k d inside)) ∙ there k d inside
