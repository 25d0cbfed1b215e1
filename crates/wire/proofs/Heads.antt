-- What stands before a text.
use Rattle.std.proofs.Common.{◌≡◌, ℕ, zero, suc, ◌+◌, ◌/◌, ◌%◌, slice_index, arith, Bool, false, List, [], ◌∷◌, ◌++◌, length, refl, sym, ap, subst, ◌∙◌, ne_eqb, append_assoc, length-append}
use Rattle.std.specs.Prelude.{◌==◌, ◌||◌, decimal}
use Rattle.std.specs.List.{list_any}
use Rattle.std.specs.Str.Parse.{AllDigits}
use Rattle.std.proofs.lemmas.Fmt.{decimal_is_IsNumeral}
use Rattle.std.proofs.lemmas.List.Folds.{list_any-append}
use Rattle.std.proofs.lemmas.Str.Parse.{digit_from_value}
use Rattle.std.specs.Int.{w32, to_be_bytes}
use Rattle.hex.specs.Hex.{encode_lower, encode_with, lower_digits}
use Rattle.wire.specs.Frame.{frame}
use Rattle.map_core.specs.declared.op.Expect.{Expect}
use Rattle.map_core.specs.declared.op.Expect.TheVariants.{Absent, Sequence, Unnumbered}
use Rattle.wire.specs.RequestForm.{named, expect_word, IsExpect, IsOneLine}

-- a length, a letter, the length of a name, the name, what is in the middle, and a text
pub frame_in_parts : (field : List ℕ) (letter : ℕ) (name middle text : List ℕ) → field ≡ to_be_bytes w32 (length text + (2 + length name + length middle))
    → (((field ++ (letter ∷ length name ∷ [])) ++ name) ++ middle) ++ text ≡ frame (letter ∷ named name ++ (middle ++ text))
unfolding frame
frame_in_parts field letter name middle text is =
    let size : length text + (2 + length name + length middle) ≡ length (letter ∷ named name ++ (middle ++ text)) = omega (arith, length-append name (middle ++ text), length-append middle text) in
    append_assoc ((field ++ (letter ∷ length name ∷ [])) ++ name) middle text
    ∙ append_assoc (field ++ (letter ∷ length name ∷ [])) name (middle ++ text)
    ∙ append_assoc field (letter ∷ length name ∷ []) (name ++ (middle ++ text))
    ∙ ap (λ f. f ++ letter ∷ length name ∷ (name ++ (middle ++ text))) (is ∙ ap (to_be_bytes w32) size)

pub fetch_frame : 0 ∷ 0 ∷ 0 ∷ 1 ∷ 70 ∷ [] ≡ frame (70 ∷ [])
unfolding frame
fetch_frame = refl

pub stats_frame : 0 ∷ 0 ∷ 0 ∷ 1 ∷ 77 ∷ [] ≡ frame (77 ∷ [])
unfolding frame
stats_frame = refl

pub fetch_unless_frame : (known : List ℕ) → length known ≡ 32 → (0 ∷ 0 ∷ 0 ∷ 33 ∷ 85 ∷ []) ++ known ≡ frame (85 ∷ known)
unfolding frame
fetch_unless_frame known long = ap (λ (n : ℕ). to_be_bytes w32 (suc n) ++ 85 ∷ known) (sym long)

pub speak_frame : (number : ℕ) → 0 ∷ 0 ∷ 0 ∷ 2 ∷ 86 ∷ number ∷ [] ≡ frame (86 ∷ number ∷ [])
unfolding frame
speak_frame number = refl

-- ---- line feeds

pub digits_are_line : (ds : List ℕ) → AllDigits 10 ds → IsOneLine ds
digits_are_line [] all = refl
digits_are_line (d ∷ ds) all =
    let digit = digit_from_value d all.0 in
    let other : (d == 10) ≡ false = ne_eqb d 10 (λ is. omega (arith, digit, is)) in
    ap (λ (b : Bool). b || list_any (λ byte. byte == 10) ds) other ∙ digits_are_line ds all.1

digit_is_plain : (n : ℕ) → (slice_index lower_digits n == 10) ≡ false
digit_is_plain zero = refl
digit_is_plain (suc zero) = refl
digit_is_plain (suc (suc zero)) = refl
digit_is_plain (suc (suc (suc zero))) = refl
digit_is_plain (suc (suc (suc (suc zero)))) = refl
digit_is_plain (suc (suc (suc (suc (suc zero))))) = refl
digit_is_plain (suc (suc (suc (suc (suc (suc zero)))))) = refl
digit_is_plain (suc (suc (suc (suc (suc (suc (suc zero))))))) = refl
digit_is_plain (suc (suc (suc (suc (suc (suc (suc (suc zero)))))))) = refl
digit_is_plain (suc (suc (suc (suc (suc (suc (suc (suc (suc zero))))))))) = refl
digit_is_plain (suc (suc (suc (suc (suc (suc (suc (suc (suc (suc zero)))))))))) = refl
digit_is_plain (suc (suc (suc (suc (suc (suc (suc (suc (suc (suc (suc zero))))))))))) = refl
digit_is_plain (suc (suc (suc (suc (suc (suc (suc (suc (suc (suc (suc (suc zero)))))))))))) = refl
digit_is_plain (suc (suc (suc (suc (suc (suc (suc (suc (suc (suc (suc (suc (suc zero))))))))))))) = refl
digit_is_plain (suc (suc (suc (suc (suc (suc (suc (suc (suc (suc (suc (suc (suc (suc zero)))))))))))))) = refl
digit_is_plain (suc (suc (suc (suc (suc (suc (suc (suc (suc (suc (suc (suc (suc (suc (suc zero))))))))))))))) = refl
digit_is_plain (suc (suc (suc (suc (suc (suc (suc (suc (suc (suc (suc (suc (suc (suc (suc (suc n)))))))))))))))) = refl

pub hex_is_line : (bytes : List ℕ) → IsOneLine (encode_lower bytes)
unfolding encode_with
hex_is_line [] = refl
hex_is_line (b ∷ bytes) =
    ap (λ (c : Bool). c || ((slice_index lower_digits (b % 16) == 10) || list_any (λ byte. byte == 10) (encode_lower bytes))) (digit_is_plain (b / 16))
    ∙ ap (λ (c : Bool). c || list_any (λ byte. byte == 10) (encode_lower bytes)) (digit_is_plain (b % 16))
    ∙ hex_is_line bytes

pub expect_is_line : (e : Expect) → IsExpect e → IsOneLine (expect_word e)
expect_is_line Absent fits = refl
expect_is_line Unnumbered fits = refl
expect_is_line (Sequence n) fits = digits_are_line (decimal n) (decimal_is_IsNumeral n fits).0.1

-- a word with a space on each side
pub spaced_is_line : (word items : List ℕ) → IsOneLine word → items ≡ ((32 ∷ []) ++ word) ++ (32 ∷ []) → IsOneLine items
spaced_is_line word items plain is =
    subst IsOneLine (sym is) (list_any-append (λ byte. byte == 10) word (32 ∷ []) ∙ ap (λ (b : Bool). b || false) plain)
