-- Numbers, expectations and versions as words.
use Rattle.std.proofs.Common.{◌≡◌, ◌⊎◌, inl, inr, ℕ, ◌<◌, ◌^◌, arith, Bool, true, false, List, [], ◌∷◌, Some, None, Result, Ok, Err, refl, sym, ap, subst, ◌∙◌, ne_eqb}
use Rattle.std.specs.List.{list_any}
use Rattle.std.specs.Prelude.{◌==◌, ◌||◌, codes, decimal, bytes_eq, if◌then◌else◌, option_map}
use Rattle.std.specs.Str.Parse.{AllDigits}
use Rattle.std.proofs.lemmas.Fmt.{decimal_is_IsNumeral}
use Rattle.std.proofs.lemmas.Str.Parse.{digit_from_value}
use Rattle.std.proofs.lemmas.Option.{same_Some, none-some}
use Rattle.std.proofs.lemmas.Slice.Eq.{bytes_eq-Decides}
use Rattle.hex.specs.declared.error.FromHexError.{FromHexError}
use Rattle.hex.specs.Hex.{encode_lower, decode_sized}
use Rattle.hex.proofs.HexLemmas.{decode_of-ok, decode_sized-ok, decode_sized-twice, decode_sized-encode_lower}
use Rattle.map_core.specs.declared.op.Expect.{Expect}
use Rattle.map_core.specs.declared.op.Expect.TheVariants.{Absent, Sequence, Unnumbered}
use Rattle.wire.specs.declared.version.Version.{Version}
use Rattle.wire.specs.declared.version.Version.TheVariants.{One, Two, Three}
use Rattle.wire.specs.RequestForm.{IsExpect, IsDigest, IsWord, SpellsExpect, expect_word, version_word}
use Rattle.wire.specs.Private.RequestReading.{number_of, expect_of, version_of, written_as, digest_of}
use Rattle.wire.proofs.Numbers.{number_found, number_of-decimal}
use Rattle.wire.proofs.Cases.{if_some, same_bytes, map_some, word_cases}

-- ---- expectations

pub expect_found : (word : List ℕ) (e : Expect) → expect_of word ≡ Some e → SpellsExpect e word × IsExpect e
unfolding expect_of
expect_found word e is =
    word_cases word (codes "absent") _ _ e is (λ w is. told (same_Some Absent e is) (w, tt)) (λ is.
    word_cases word (codes "none") _ _ e is (λ w is. told (same_Some Unnumbered e is) (inl w, tt)) (λ is.
    word_cases word (codes "unnumbered") _ _ e is (λ w is. told (same_Some Unnumbered e is) (inr w, tt)) (λ is.
    let n = map_some Sequence (number_of word) e is in
    let m = number_found word n.0 n.1 in
    told n.2 (m.1, m.0))))
  where
    told : {x : Expect} → x ≡ e → SpellsExpect x word × IsExpect x → SpellsExpect e word × IsExpect e
    told same found = subst (λ (x : Expect). SpellsExpect x word × IsExpect x) same found

pub spells_itself : (e : Expect) → SpellsExpect e (expect_word e)
spells_itself Absent = refl
spells_itself Unnumbered = inl refl
spells_itself (Sequence n) = refl

-- a number begins with a digit
pub no_number : (n byte : ℕ) → n < 2 ^ 64 → (byte < 48) ⊎ (57 < byte) → (rest : List ℕ) → bytes_eq (decimal n) (byte ∷ rest) ≡ false
no_number n byte small other rest = by (bytes_eq (decimal n) (byte ∷ rest)) refl other
  where
    by : (b : Bool) → bytes_eq (decimal n) (byte ∷ rest) ≡ b → (byte < 48) ⊎ (57 < byte) → b ≡ false
    by false e away = refl
    by true e away =
        let digits = subst (AllDigits 10) (same_bytes (decimal n) (byte ∷ rest) e) (decimal_is_IsNumeral n small).0.1 in
        elim away [
          | inl low ↦ absurd (omega (arith, digit_from_value byte digits.0))
          | inr high ↦ absurd (omega (arith, digit_from_value byte digits.0))
        ]

sequence_read : (n : ℕ) → n < 2 ^ 64 → expect_of (decimal n) ≡ Some (Sequence n)
unfolding expect_of
sequence_read n fits =
    ap (λ (b : Bool). if b then Some Absent else (if bytes_eq (decimal n) (codes "none") then Some Unnumbered else (if bytes_eq (decimal n) (codes "unnumbered") then Some Unnumbered else option_map Sequence (number_of (decimal n))))) (no_number n 97 fits (inr (omega arith)) (98 ∷ 115 ∷ 101 ∷ 110 ∷ 116 ∷ []))
    ∙ ap (λ (b : Bool). if b then Some Unnumbered else (if bytes_eq (decimal n) (codes "unnumbered") then Some Unnumbered else option_map Sequence (number_of (decimal n)))) (no_number n 110 fits (inr (omega arith)) (111 ∷ 110 ∷ 101 ∷ []))
    ∙ ap (λ (b : Bool). if b then Some Unnumbered else option_map Sequence (number_of (decimal n))) (no_number n 117 fits (inr (omega arith)) (110 ∷ 110 ∷ 117 ∷ 109 ∷ 98 ∷ 101 ∷ 114 ∷ 101 ∷ 100 ∷ []))
    ∙ ap (option_map Sequence) (number_of-decimal n fits)

pub expect_read : (e : Expect) (word : List ℕ) → SpellsExpect e word → IsExpect e → expect_of word ≡ Some e
unfolding expect_of
expect_read Absent word is fits = ap expect_of is
expect_read Unnumbered word (inl is) fits = ap expect_of is
expect_read Unnumbered word (inr is) fits = ap expect_of is
expect_read (Sequence n) word is fits = ap expect_of is ∙ sequence_read n fits

digits_are_word : (ds : List ℕ) → AllDigits 10 ds → IsWord ds
digits_are_word [] all = refl
digits_are_word (d ∷ ds) all =
    let digit = digit_from_value d all.0 in
    let other : (d == 32) ≡ false = ne_eqb d 32 (λ is. omega (arith, digit, is)) in
    ap (λ (b : Bool). b || list_any (λ byte. byte == 32) ds) other ∙ digits_are_word ds all.1

pub decimal_is_word : (n : ℕ) → n < 2 ^ 64 → IsWord (decimal n)
decimal_is_word n fits = digits_are_word (decimal n) (decimal_is_IsNumeral n fits).0.1

pub expect_is_word : (e : Expect) (word : List ℕ) → SpellsExpect e word → IsExpect e → IsWord word
expect_is_word Absent word is fits = subst IsWord (sym is) refl
expect_is_word Unnumbered word (inl is) fits = subst IsWord (sym is) refl
expect_is_word Unnumbered word (inr is) fits = subst IsWord (sym is) refl
expect_is_word (Sequence n) word is fits = subst IsWord (sym is) (decimal_is_word n fits)

-- ---- versions

pub version_found : (word : List ℕ) (v : Version) → version_of word ≡ Some v → word ≡ version_word v
unfolding version_of
version_found word v is = elim (if_some (bytes_eq word (codes "1")) (Some One) _ v is) [
  | inl h ↦ same_bytes word (codes "1") h.0 ∙ ap version_word (same_Some One v h.1)
  | inr h ↦ elim (if_some (bytes_eq word (codes "2")) (Some Two) _ v h.1) [
    | inl k ↦ same_bytes word (codes "2") k.0 ∙ ap version_word (same_Some Two v k.1)
    | inr k ↦ elim (if_some (bytes_eq word (codes "3")) (Some Three) None v k.1) [
      | inl l ↦ same_bytes word (codes "3") l.0 ∙ ap version_word (same_Some Three v l.1)
      | inr l ↦ absurd (none-some v l.1)
    ]
  ]
]

pub version_read : (v : Version) → version_of (version_word v) ≡ Some v
unfolding version_of
version_read One = refl
version_read Two = refl
version_read Three = refl

-- ---- digests

pub digest_found : (word digest : List ℕ) → digest_of word ≡ Some digest → (word ≡ encode_lower digest) × IsDigest digest
unfolding digest_of
digest_found word digest is = by (decode_sized word 32) refl is
  where
    by : (o : Result (List ℕ) FromHexError) → decode_sized word 32 ≡ o → written_as word o ≡ Some digest → (word ≡ encode_lower digest) × IsDigest digest
    by (Err why) e h = absurd (none-some digest h)
    by (Ok bytes) e h = elim (if_some (bytes_eq (encode_lower bytes) word) (Some bytes) None digest h) [
      | inl k ↦
          let twice = decode_sized-ok word 32 bytes e in
          let ok = decode_of-ok word bytes (sym (decode_sized-twice word 32 twice) ∙ e) in
          let long = ok.2 in
          let is : IsDigest bytes = (omega (arith, twice, long), ok.3) in
          let same = same_Some bytes digest k.1 in
          (sym (same_bytes (encode_lower bytes) word k.0) ∙ ap encode_lower same, subst IsDigest same is)
      | inr k ↦ absurd (none-some digest k.1)
    ]

itself : (word digest : List ℕ) (o : Result (List ℕ) FromHexError) → o ≡ Ok digest → encode_lower digest ≡ word → written_as word o ≡ Some digest
itself word digest o is same =
    ap (written_as word) is ∙ ap (λ (b : Bool). if b then Some digest else None) ((bytes_eq-Decides (encode_lower digest) word).1 same)

pub digest_read : (digest : List ℕ) → IsDigest digest → digest_of (encode_lower digest) ≡ Some digest
unfolding digest_of
digest_read digest is = itself (encode_lower digest) digest _ (decode_sized-encode_lower digest 32 is.0 is.1) refl
