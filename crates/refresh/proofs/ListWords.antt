-- The words of a line, one after the other.
use Rattle.std.proofs.Common.{◌≡◌, ℕ, suc, ◌<◌, ◌≤◌, List, [], ◌∷◌, ◌++◌, length, get_or, Some, None, take, ◌+◌, true, false, cond, not, refl, sym, ap, ◌∙◌, arith, append-nil, inl, inr}
use Rattle.std.specs.Char.{is_ascii_whitespace}
use Rattle.std.specs.List.{All, AllPass, filter, slice_split, before_first, position_or_len}
use Rattle.std.specs.Str.{NoCharPasses}
use Rattle.std.specs.Borrow.{Bor}
use Rattle.std.specs.declared.str.SplitAsciiWhitespace.{SplitAscii}
use Rattle.std.specs.Str.Iter.{IsAsciiSeparator, split_ascii_whitespace_steps, split_ascii_whitespace_text}
use Rattle.std.proofs.lemmas.List.{get_or_default}
use Rattle.std.proofs.lemmas.List.Splits.{slice_split-cons_yes, slice_split_none, slice_split_at}
use Rattle.std.proofs.lemmas.Str.{NoCharPasses-byte}
use Rattle.std.proofs.lemmas.Bool.{cases_lt}
use Rattle.std.proofs.lemmas.Bool.Decides.{nat_tests}
use Rattle.refresh.specs.List.{has_bytes, begins_comment, words_of}

-- the parts of a line that are not empty
abbrev parts : List ℕ → List (List ℕ)
parts line = filter has_bytes (slice_split is_ascii_whitespace line)

-- white space at the front is part of no word
parts-white : (gap rest : List ℕ) → AllPass is_ascii_whitespace gap → parts (gap ++ rest) ≡ parts rest
parts-white [] rest white = refl
parts-white (byte ∷ gap) rest white =
    ap (filter has_bytes) (slice_split-cons_yes is_ascii_whitespace byte (gap ++ rest) (white 0 0 (omega arith)))
    ∙ parts-white gap rest (λ k d inside. white (suc k) d (omega (arith, inside)))

-- a byte of no ASCII is not white space
white-high : (byte : ℕ) → 128 ≤ byte → is_ascii_whitespace byte ≡ false
white-high byte high = grind (arith, nat_tests)

plain_bytes : (word : List ℕ) → NoCharPasses is_ascii_whitespace word → All (λ byte. is_ascii_whitespace byte ≡ false) word
plain_bytes word none k d inside =
    ap is_ascii_whitespace (get_or_default word k d 0 inside)
    ∙ elim (cases_lt (get_or word k 0) 128) [
      | inl low ↦ NoCharPasses-byte is_ascii_whitespace word k none inside low
      | inr high ↦ white-high (get_or word k 0) high
    ]

has_bytes-some : (word : List ℕ) → 0 < length word → has_bytes word ≡ true
has_bytes-some word some = grind (arith, nat_tests)

-- a word is the first, if it stands at the front
parts-word : (word sep rest : List ℕ) → 0 < length word → All (λ byte. is_ascii_whitespace byte ≡ false) word → IsAsciiSeparator sep rest
    → parts (word ++ (sep ++ rest)) ≡ word ∷ parts rest
parts-word word [] [] some plain separates =
    ap parts (append-nil word) ∙ ap (filter has_bytes) (slice_split_none is_ascii_whitespace word plain) ∙ ap (λ b. cond b (word ∷ []) []) (has_bytes-some word some)
parts-word word [] (byte ∷ rest) some plain separates = absurd (omega (arith, separates.2 refl))
parts-word word (byte ∷ []) rest some plain separates =
    ap (filter has_bytes) (slice_split_at is_ascii_whitespace word byte rest plain (separates.0 0 0 (omega arith))) ∙ ap (λ b. cond b (word ∷ parts rest) (parts rest)) (has_bytes-some word some)
parts-word word (byte ∷ next ∷ more) rest some plain separates = absurd (omega (arith, separates.1))

-- up to the first comment
before_comment : (word : List ℕ) (words : List (List ℕ)) → begins_comment word ≡ false → before_first begins_comment (word ∷ words) ≡ word ∷ before_first begins_comment words
before_comment word words no_comment =
    let n = position_or_len begins_comment words in
    let more : 1 + n ≡ suc n = omega arith in
    ap (λ b. take (cond (not b) (1 + n) 0) (word ∷ words)) no_comment ∙ ap (λ m. take m (word ∷ words)) more

at_comment : (word : List ℕ) (words : List (List ℕ)) → begins_comment word ≡ true → before_first begins_comment (word ∷ words) ≡ []
at_comment word words comment = ap (λ b. take (cond (not b) (1 + position_or_len begins_comment words) 0) (word ∷ words)) comment

pub no_words : (line : List ℕ) → AllPass is_ascii_whitespace line → words_of line ≡ []
unfolding words_of
no_words line white = ap (before_first begins_comment) (ap parts (sym (append-nil line)) ∙ parts-white line [] white)

module _ (line gap word sep rest : List ℕ) (laid : line ≡ gap ++ (word ++ (sep ++ rest))) (white : AllPass is_ascii_whitespace gap)
    (some : 0 < length word) (plain : NoCharPasses is_ascii_whitespace word) (separates : IsAsciiSeparator sep rest) where
  first : parts line ≡ word ∷ parts rest
  first = ap parts laid ∙ parts-white gap (word ++ (sep ++ rest)) white ∙ parts-word word sep rest some (plain_bytes word plain) separates

  pub first_word : begins_comment word ≡ false → words_of line ≡ word ∷ words_of rest
  unfolding words_of
  first_word no_comment = ap (before_first begins_comment) first ∙ before_comment word (parts rest) no_comment

  pub comment_first : begins_comment word ≡ true → words_of line ≡ []
  unfolding words_of
  comment_first comment = ap (before_first begins_comment) first ∙ at_comment word (parts rest) comment

-- ---- a call of `next`

pub next_word : (s t : SplitAscii) (word : Bor (List ℕ)) → split_ascii_whitespace_steps s (Some word) t → begins_comment word.now ≡ false
    → words_of (split_ascii_whitespace_text s) ≡ word.now ∷ words_of (split_ascii_whitespace_text t)
next_word s t word steps no_comment =
    let cut = steps.3 in
    first_word (split_ascii_whitespace_text s) cut.0 word.now cut.1 (split_ascii_whitespace_text t) cut.2 cut.3 steps.0 steps.1 cut.4 no_comment

pub next_comment : (s t : SplitAscii) (word : Bor (List ℕ)) → split_ascii_whitespace_steps s (Some word) t → begins_comment word.now ≡ true → words_of (split_ascii_whitespace_text s) ≡ []
next_comment s t word steps comment =
    let cut = steps.3 in
    comment_first (split_ascii_whitespace_text s) cut.0 word.now cut.1 (split_ascii_whitespace_text t) cut.2 cut.3 steps.0 steps.1 cut.4 comment

pub next_none : (s t : SplitAscii) → split_ascii_whitespace_steps s None t → words_of (split_ascii_whitespace_text s) ≡ []
next_none s t steps = no_words (split_ascii_whitespace_text s) steps.0
