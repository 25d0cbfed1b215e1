-- Texts are in the order of their first bytes, read as one number, if these numbers differ.
use Rattle.std.proofs.Common.{◌≡◌, ℕ, zero, suc, ◌+◌, ◌*◌, ◌^◌, ◌<◌, List, [], ◌∷◌, slice_index, refl, sym, ap, ◌∙◌, arith, inl, inr}
use Rattle.std.proofs.Math.Nat.{mul_assoc, mul-le-mul_right, one-le-pow, pow-le-pow_right}
use Rattle.std.proofs.lemmas.Bool.{cases_lt}
use Rattle.std.proofs.lemmas.Cmp.{nat_list_cmp_total}
use Rattle.std.specs.Ordering.{nat_cmp, ordering_reverse}
use Rattle.std.specs.Cmp.{nat_cmp_is}
use Rattle.std.specs.Cmp.Lexicographic.{slice_cmp}
use Rattle.std.specs.declared.cmp.Ordering.TheVariants.{Less, Equal, Greater}
use Rattle.spiffe_doc.specs.Key.{AreBytes}
use Rattle.spiffe_doc.specs.Name.{IsName}
use Rattle.spiffe_doc.specs.Private.Prefix.{prefix_number}
use Rattle.spiffe_doc.proofs.NameLemmas.{IsAscii-IsName}

-- what k bytes come to is below the k-th power
pub prefix-below : (k : ℕ) (xs : List ℕ) → AreBytes xs → prefix_number k xs < 256 ^ k
prefix-below zero xs h = omega arith
prefix-below (suc k) [] h = omega (arith, one-le-pow k 256 (omega arith))
prefix-below (suc k) (x ∷ xs) h =
    let first : x < 256 = h 0 in
    let rest = prefix-below k xs (λ i. h (suc i)) in
    let times = mul-le-mul_right {m = x} {n = 255} (256 ^ k) (omega (arith, first)) in
    omega (arith, rest, times)

-- one byte more
pub prefix-more : (k : ℕ) (xs : List ℕ) → prefix_number (suc k) xs ≡ prefix_number k xs * 256 + slice_index xs k
prefix-more zero [] = refl
prefix-more zero (x ∷ xs) = omega arith
prefix-more (suc k) [] = refl
prefix-more (suc k) (x ∷ xs) =
    let next : 256 ^ suc k ≡ 256 ^ k * 256 = omega arith in
    let power : x * 256 ^ suc k ≡ x * 256 ^ k * 256 = ap (λ p. x * p) next ∙ sym (mul_assoc x (256 ^ k) 256) in
    omega (arith, prefix-more k xs, power)

-- one byte more has room in 64 bits
pub prefix-room : (k : ℕ) (xs : List ℕ) → AreBytes xs → k < 8 → prefix_number k xs * 256 + 255 < 2 ^ 64
prefix-room k xs h below =
    let power = pow-le-pow_right {n = 256} (omega arith) {i = suc k} {j = 8} (omega (arith, below)) in
    omega (arith, prefix-below k xs h, power)

less : (x y : ℕ) → x < y → nat_cmp x y ≡ Less
less x y h = sym (nat_cmp_is x y Less h)

greater : (x y : ℕ) → y < x → nat_cmp x y ≡ Greater
greater x y h = sym (nat_cmp_is x y Greater h)

equal : (x y : ℕ) → x ≡ y → nat_cmp x y ≡ Equal
equal x y h = sym (nat_cmp_is x y Equal h)

-- a number below another in its first digit stays below
digit : (x y p a b : ℕ) → b < p → x * p + a < y * p + b → y < x → ⊥
digit x y p a b small below h =
    let times = mul-le-mul_right {m = suc y} {n = x} p h in
    omega (arith, times, small, below)

pub prefix-less : (k : ℕ) (xs ys : List ℕ) → AreBytes ys → prefix_number k xs < prefix_number k ys → slice_cmp nat_cmp xs ys ≡ Less
prefix-less zero xs ys h below = absurd (omega (arith, below))
prefix-less (suc k) [] [] h below = absurd (omega (arith, below))
prefix-less (suc k) [] (y ∷ ys) h below = refl
prefix-less (suc k) (x ∷ xs) [] h below = absurd (omega (arith, below))
prefix-less (suc k) (x ∷ xs) (y ∷ ys) h below = elim (cases_lt x y) [
  | inl first ↦ rw (less x y first) refl
  | inr past ↦ elim (cases_lt y x) [
    | inl above ↦ absurd (digit x y (256 ^ k) (prefix_number k xs) (prefix_number k ys) (prefix-below k ys (λ i. h (suc i))) below above)
    | inr other ↦
        let same : x ≡ y = omega (arith, past, other) in
        let rest : prefix_number k xs < prefix_number k ys = omega (arith, below, ap (λ z. z * 256 ^ k) same) in
        rw (equal x y same) (prefix-less k xs ys (λ i. h (suc i)) rest)
  ]
]

pub prefix-greater : (k : ℕ) (xs ys : List ℕ) → AreBytes xs → prefix_number k ys < prefix_number k xs → slice_cmp nat_cmp xs ys ≡ Greater
prefix-greater k xs ys h below = nat_list_cmp_total.antisymm xs ys ∙ ap ordering_reverse (prefix-less k ys xs h below)

are_bytes : (text : List ℕ) → IsName text → AreBytes text
are_bytes text h i = omega (arith, IsAscii-IsName text h i)

-- if the numbers of two texts differ, they order the texts
pub texts_by_prefix : (xs ys : List ℕ) (m n : ℕ) → AreBytes xs × (m ≡ prefix_number 8 xs) → AreBytes ys × (n ≡ prefix_number 8 ys)
    → (nat_cmp m n ≡ Equal → ⊥) → nat_cmp m n ≡ slice_cmp nat_cmp xs ys
texts_by_prefix xs ys m n (bytes, is) (others, stands) differ = elim (cases_lt m n) [
  | inl below ↦ less m n below ∙ sym (prefix-less 8 xs ys others (omega (arith, is, stands, below)))
  | inr past ↦ elim (cases_lt n m) [
    | inl above ↦ greater m n above ∙ sym (prefix-greater 8 xs ys bytes (omega (arith, is, stands, above)))
    | inr tied ↦ absurd (differ (equal m n (omega (arith, past, tied))))
  ]
]

pub names_by_prefix : (xs ys : List ℕ) (m n : ℕ) → IsName xs × (m ≡ prefix_number 8 xs) → IsName ys × (n ≡ prefix_number 8 ys)
    → (nat_cmp m n ≡ Equal → ⊥) → nat_cmp m n ≡ slice_cmp nat_cmp xs ys
names_by_prefix xs ys m n (name, is) (other, stands) differ = texts_by_prefix xs ys m n (are_bytes xs name, is) (are_bytes ys other, stands) differ
