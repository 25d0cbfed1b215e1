-- A trust domain name is written in JSON as it stands.
use Rattle.std.proofs.Common.{◌≡◌, ℕ, zero, suc, ◌<◌, List, [], ◌∷◌, ◌++◌, bytes_eq, Bool, true, false, not, ◌&&◌, ◌||◌, inl, inr, arith, refl, ap, subst}
use Rattle.std.specs.List.{AllByRecursion}
use Rattle.std.specs.Cmp.Lexicographic.{bytes_decides}
use Rattle.std.proofs.lemmas.Bool.{cases_lt, and_parts}
use Rattle.std.proofs.lemmas.List.Elements.{recursion_from_All}
use Rattle.json.specs.Print.{escape_byte, escape, quoted}
use Rattle.spiffe_doc.specs.Name.{is_name_byte, IsName}
use Rattle.spiffe_doc.proofs.NameLemmas.{is_name_byte_ascii}

-- whether each number below this passes
abbrev each_below : (ℕ → Bool) → ℕ → Bool
each_below test zero = true
each_below test (suc n) = test n && each_below test n

each_passes : (test : ℕ → Bool) (n : ℕ) → each_below test n ≡ true → (i : ℕ) → i < n → test i ≡ true
each_passes test zero all i less = absurd (omega (arith, less))
each_passes test (suc n) all i less =
    let both = and_parts (test n) (each_below test n) all in
    elim (cases_lt i n) [
      | inl below ↦ each_passes test n both.1 i below
      | inr past ↦ let last : n ≡ i = omega (arith, past, less) in subst (λ k. test k ≡ true) last both.0
    ]

implied : (b c : Bool) → (not b || c) ≡ true → b ≡ true → c ≡ true
implied true c h is = h
implied false c h is = cc is

-- a byte of a name stands for itself
plain_byte : (x : ℕ) → is_name_byte x ≡ true → escape_byte x ≡ x ∷ []
unfolding escape_byte
plain_byte x is =
    let plain = each_passes (λ y. not (is_name_byte y) || bytes_eq (escape_byte y) (y ∷ [])) 128 refl x (is_name_byte_ascii x is) in
    (bytes_decides (escape_byte x) (x ∷ [])).0 (implied (is_name_byte x) _ plain is)

plain_bytes : (xs : List ℕ) → AllByRecursion (λ x. is_name_byte x ≡ true) xs → escape xs ≡ xs
plain_bytes [] all = refl
plain_bytes (x ∷ xs) all = rw (plain_byte x all.0, plain_bytes xs all.1) refl

-- a name between quotes
pub quoted-name : (name : List ℕ) → IsName name → quoted name ≡ 34 ∷ (name ++ 34 ∷ [])
quoted-name name is = ap (λ text. 34 ∷ (text ++ 34 ∷ [])) (plain_bytes name (recursion_from_All (λ x. is_name_byte x ≡ true) name is.allowed))
