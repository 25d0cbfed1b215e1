-- Base64 that is cut into lines: 48 bytes give a whole line.
use Rattle.std.proofs.Common.{◌≡◌, ◌<◌, ◌≤◌, ◌+◌, ◌*◌, ◌/◌, ◌%◌, ◌++◌, ◌∷◌, [], List, ℕ, suc, min, length, take, drop, replicate, arith, refl, sym, ap, ◌∙◌, append-nil, append_assoc, length-append}
use Rattle.std.proofs.lemmas.List.{take_all, take_at, drop_at, drop_all, take-append-drop, length-take-le, length-replicate, nil_from_length}
use Rattle.std.proofs.lemmas.Bool.{cases_lt}
use Rattle.std.proofs.Common.{inl, inr}
use Rattle.std.specs.List.{flat_map}
use Rattle.base64.specs.Rfc4648.{encode_symbols, padding_len}
use Rattle.base64.specs.Engines.{standard}
use Rattle.base64.specs.GeneralPurpose.{engine_symbols}
use Rattle.base64.proofs.Canonical.{encode_symbols-append}
use Rattle.base64.proofs.RoundTrip.{length-encode_symbols}
use Rattle.dump_views.specs.Pem.{base64_of, pieces, cut, line}

-- the symbols of bytes
abbrev symbols : List ℕ → List ℕ
symbols m = encode_symbols (engine_symbols standard) m

abbrev padding : ℕ → List ℕ
padding n = replicate (padding_len n) 61

-- how many padding symbols there are, is told by the bytes after the last whole group
padding_after : (n : ℕ) → padding_len (48 + n) ≡ padding_len n
padding_after n = omega arith

pub length-base64 : (m : List ℕ) → length (base64_of m) ≡ (length m + 2) / 3 * 4
length-base64 m =
    let s = length-encode_symbols (engine_symbols standard) m in
    let p : length (padding (length m)) ≡ padding_len (length m) = length-replicate (padding_len (length m)) 61 in
    omega (arith, length-append (symbols m) (padding (length m)))

-- 48 bytes by themselves, and then the others
base64-append : (a b : List ℕ) → length a ≡ 48 → base64_of (a ++ b) ≡ base64_of a ++ base64_of b
base64-append a b size =
    let whole : length a % 3 ≡ 0 = omega arith in
    let split = encode_symbols-append (engine_symbols standard) a b whole in
    let sum : length (a ++ b) ≡ 48 + length b = omega (arith, length-append a b) in
    let none : base64_of a ≡ symbols a = ap (λ n. symbols a ++ padding n) size ∙ append-nil (symbols a) in
    ap (λ s. s ++ padding (length (a ++ b))) split
    ∙ ap (λ n. (symbols a ++ symbols b) ++ replicate n 61) (ap padding_len sum ∙ padding_after (length b))
    ∙ append_assoc (symbols a) (symbols b) (padding (length b))
    ∙ ap (λ s. s ++ base64_of b) (sym none)

cut-append : (a b : List ℕ) → length a ≡ 64 → cut (a ++ b) ≡ a ∷ cut b
unfolding cut pieces
cut-append a b size =
    let count : (length (a ++ b) + 63) / 64 ≡ suc ((length b + 63) / 64) = omega (arith, length-append a b) in
    ap (λ n. pieces n (a ++ b)) count
    ∙ ap (λ t. t ∷ pieces ((length b + 63) / 64) (drop 64 (a ++ b))) (take_at a b 64 size)
    ∙ ap (λ t. a ∷ pieces ((length b + 63) / 64) t) (drop_at a b 64 size)

cut_short : (a : List ℕ) → 0 < length a → length a ≤ 64 → cut a ≡ a ∷ []
unfolding cut pieces
cut_short a some short =
    let count : (length a + 63) / 64 ≡ 1 = omega arith in
    ap (λ n. pieces n a) count ∙ ap (λ t. t ∷ []) (take_all 64 a short)

-- the lines of the base64 of bytes
abbrev pub wrapped : List ℕ → List ℕ
wrapped m = flat_map line (cut (base64_of m))

wrapped_none : wrapped [] ≡ []
unfolding encode_symbols cut pieces
wrapped_none = refl

wrapped_long : (m : List ℕ) → 48 ≤ length m → wrapped m ≡ line (base64_of (take 48 m)) ++ wrapped (drop 48 m)
wrapped_long m long =
    let size : length (take 48 m) ≡ 48 = length-take-le 48 m long in
    let full : length (base64_of (take 48 m)) ≡ 64 = omega (arith, length-base64 (take 48 m)) in
    ap wrapped (sym (take-append-drop 48 m))
    ∙ ap (λ t. flat_map line (cut t)) (base64-append (take 48 m) (drop 48 m) size)
    ∙ ap (flat_map line) (cut-append (base64_of (take 48 m)) (base64_of (drop 48 m)) full)

wrapped_short : (m : List ℕ) → 0 < length m → length m ≤ 48 → wrapped m ≡ line (base64_of m)
wrapped_short m some short =
    let size = length-base64 m in
    ap (flat_map line) (cut_short (base64_of m) (omega arith) (omega arith)) ∙ append-nil (line (base64_of m))

wrapped_step : (m : List ℕ) (n : ℕ) → 0 < length m → n ≡ min (length m) 48 → wrapped m ≡ line (base64_of (take n m)) ++ wrapped (drop n m)
wrapped_step m n some is = elim (cases_lt 48 (length m)) [
  | inl long ↦
      let at : n ≡ 48 = omega arith in
      wrapped_long m (omega arith) ∙ ap (λ k. line (base64_of (take k m)) ++ wrapped (drop k m)) (sym at)
  | inr short ↦
      let at : length m ≤ n = omega arith in
      wrapped_short m some (omega arith)
      ∙ ap (λ t. line (base64_of t)) (sym (take_all n m at))
      ∙ sym (append-nil (line (base64_of (take n m))))
      ∙ ap (λ t. line (base64_of (take n m)) ++ t) (sym wrapped_none)
      ∙ ap (λ t. line (base64_of (take n m)) ++ wrapped t) (sym (drop_all n m at))
]

-- one more line is appended
pub line_more : (out m front rest : List ℕ) (n : ℕ) → 0 < length m → n ≡ min (length m) 48 → front ≡ take n m → rest ≡ drop n m
    → (out ++ line (base64_of front)) ++ wrapped rest ≡ out ++ wrapped m
line_more out m front rest n some is first others =
    append_assoc out (line (base64_of front)) (wrapped rest)
    ∙ ap (λ t. out ++ (line (base64_of t) ++ wrapped rest)) first
    ∙ ap (λ t. out ++ (line (base64_of (take n m)) ++ wrapped t)) others
    ∙ ap (λ t. out ++ t) (sym (wrapped_step m n some is))

-- no line is left
pub no_more : (out rest : List ℕ) → length rest ≡ 0 → out ++ wrapped rest ≡ out
no_more out rest none = ap (λ t. out ++ wrapped t) (nil_from_length rest none) ∙ ap (λ t. out ++ t) wrapped_none ∙ append-nil out
