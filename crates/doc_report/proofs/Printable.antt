-- What is shown of a text is printable.
use Rattle.std.proofs.Common.{ℕ, ◌<◌, ◌%◌, ◌&&◌, ◌==◌, List, [], ◌∷◌, ◌++◌, take, length, nat_lt, nat_le, inl, inr, arith}
use Rattle.std.specs.Prelude.{chars, flat_map}
use Rattle.std.specs.List.{AllByRecursion}
use Rattle.std.specs.Char.Escape.{encode_utf16}
use Rattle.std.proofs.lemmas.Bool.{cases_Bool, and_parts, leb-true, ltb-true}
use Rattle.doc_report.specs.Laws.{IsPrintable}
use Rattle.doc_report.specs.Quoted.{hex_digit, unit_text, char_text, closing, quoted}

all_append : (xs ys : List ℕ) → AllByRecursion IsPrintable xs → AllByRecursion IsPrintable ys → AllByRecursion IsPrintable (xs ++ ys)
all_append [] ys first second = second
all_append (x ∷ xs) ys first second = (first.0, all_append xs ys first.1 second)

all_flat : (text_of : ℕ → List ℕ) → ((x : ℕ) → AllByRecursion IsPrintable (text_of x)) → (xs : List ℕ) → AllByRecursion IsPrintable (flat_map text_of xs)
all_flat text_of each [] = tt
all_flat text_of each (x ∷ xs) = all_append (text_of x) (flat_map text_of xs) (each x) (all_flat text_of each xs)

hex_printable : (n : ℕ) → IsPrintable (hex_digit n)
hex_printable n = elim (cases_Bool (nat_lt (n % 16) 10)) [
  | inl small ↦ let less = ltb-true _ _ small in rw small (omega arith, omega arith)
  | inr large ↦ rw large (omega arith, omega (arith, mod-less n))
]
  where
    mod-less : (n : ℕ) → n % 16 < 16
    mod-less n = omega arith

unit_printable : (unit : ℕ) → AllByRecursion IsPrintable (unit_text unit)
unfolding unit_text
unit_printable unit = ((omega arith, omega arith), ((omega arith, omega arith), (hex_printable _, (hex_printable _, (hex_printable _, (hex_printable _, tt))))))

char_printable : (c : ℕ) → AllByRecursion IsPrintable (char_text c)
unfolding char_text
char_printable c = elim (cases_Bool (c == 34)) [
  | inl quote ↦ rw quote ((omega arith, omega arith), ((omega arith, omega arith), tt))
  | inr no_quote ↦ elim (cases_Bool (c == 92)) [
    | inl backslash ↦ rw (no_quote, backslash) ((omega arith, omega arith), ((omega arith, omega arith), tt))
    | inr other ↦ elim (cases_Bool (nat_le 32 c && nat_le c 126)) [
      | inl printable ↦ let parts = and_parts _ _ printable in rw (no_quote, other, printable) ((leb-true _ _ parts.0, leb-true _ _ parts.1), tt)
      | inr control ↦ rw (no_quote, other, control) (all_flat unit_text unit_printable (encode_utf16 c))
    ]
  ]
]

closing_printable : (text : List ℕ) → AllByRecursion IsPrintable (closing text)
closing_printable text = elim (cases_Bool (nat_le (length (chars text)) 64)) [
  | inl whole ↦ rw whole ((omega arith, omega arith), tt)
  | inr cut ↦ rw cut ((omega arith, omega arith), ((omega arith, omega arith), ((omega arith, omega arith), ((omega arith, omega arith), tt))))
]

pub quoted_printable : (text : List ℕ) → AllByRecursion IsPrintable (quoted text)
unfolding quoted
quoted_printable text =
    ((omega arith, omega arith), all_append (flat_map char_text (take 64 (chars text))) (closing text) (all_flat char_text char_printable (take 64 (chars text))) (closing_printable text))
