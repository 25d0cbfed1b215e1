-- Numbers in decimal.
use Rattle.std.proofs.Common.{◌≡◌, ℕ, ◌<◌, ◌^◌, Bool, true, false, nat_lt, List, Option, Some, None, Result, Ok, Err, refl, sym, ap, subst, ◌∙◌, arith, Bor}
use Rattle.std.specs.Prelude.{◌&&◌, if◌then◌else◌, decimal, bytes_eq, IfSome, MatchOption, MatchResult}
use Rattle.std.specs.Result.{result_ok}
use Rattle.std.specs.Str.{IsUtf8}
use Rattle.std.specs.Str.Parse.{digits_value, ParsesUnsigned}
use Rattle.std.proofs.lemmas.Option.{same_Some, none-some, cond_some}
use Rattle.std.proofs.lemmas.Slice.Eq.{bytes_eq-Decides}
use Rattle.std.proofs.lemmas.Fmt.{decimal_is_IsNumeral, IsAscii-decimal, parse-decimal}
use Rattle.std.proofs.lemmas.Str.{IsUtf8-from_ascii}
use Rattle.wire.specs.Private.RequestReading.{number_of}

pub both : (b c : Bool) → (b && c) ≡ true → (b ≡ true) × (c ≡ true)
both true c e = (refl, e)
both false c e = absurd (cc e)

pub number_found : (word : List ℕ) (n : ℕ) → number_of word ≡ Some n → (n < 2 ^ 64) × (word ≡ decimal n)
unfolding number_of
number_found word n is =
    let value = digits_value 10 word in
    let parts = cond_some (nat_lt value (2 ^ 64) && bytes_eq (decimal value) word) value n is in
    let tests = both (nat_lt value (2 ^ 64)) (bytes_eq (decimal value) word) parts.0 in
    let small : value < 2 ^ 64 = grind (arith, tests.0) in
    (subst (λ (m : ℕ). m < 2 ^ 64) parts.1 small, sym ((bytes_eq-Decides (decimal value) word).0 tests.1) ∙ ap decimal parts.1)

pub number_of-decimal : (n : ℕ) → n < 2 ^ 64 → number_of (decimal n) ≡ Some n
unfolding number_of
number_of-decimal n small =
    let value = (decimal_is_IsNumeral n small).1 in
    let lower : nat_lt n (2 ^ 64) ≡ true = grind (arith, small) in
    let same = (bytes_eq-Decides (decimal n) (decimal n)).1 refl in
    ap (λ (m : ℕ). if nat_lt m (2 ^ 64) && bytes_eq (decimal m) (decimal n) then Some m else None) value
    ∙ ap (λ (b : Bool). if b && bytes_eq (decimal n) (decimal n) then Some n else None) lower
    ∙ ap (λ (b : Bool). if b then Some n else None) same

pub number_is : (word : List ℕ) (r : Option ℕ) → IfSome r (λ n. (n < 2 ^ 64) × (word ≡ decimal n)) → ((n : ℕ) → n < 2 ^ 64 → word ≡ decimal n → r ≡ Some n) → r ≡ number_of word
number_is word (Some n) found only = sym (ap number_of found.1 ∙ number_of-decimal n found.0)
number_is word None found only = by (number_of word) refl
  where
    by : (o : Option ℕ) → number_of word ≡ o → ◌≡◌ {A = Option ℕ} None o
    by None is = refl
    by (Some n) is = let h = number_found word n is in absurd (none-some n (only n h.0 h.1))

pub number_told : (word : List ℕ) (r : Option ℕ) → r ≡ number_of word → MatchOption r ((n : ℕ) → n < 2 ^ 64 → word ≡ decimal n → ⊥) (λ n. (n < 2 ^ 64) × (word ≡ decimal n))
number_told word (Some n) is = number_found word n (sym is)
number_told word None is = λ n small same. none-some n (is ∙ ap number_of same ∙ number_of-decimal n small)

-- ---- what a parse of the word tells

pub text_is : {E : Type 0} (Q : E → Type 0) (word : List ℕ) (r : Result (Bor (List ℕ)) E) (text : Bor (List ℕ)) → MatchResult r (λ s. (s.now ≡ word) × IsUtf8 word) Q → Some text ≡ result_ok r → text.now ≡ word
text_is Q word (Ok y) text h is = ap (λ (s : Bor (List ℕ)). s.now) (same_Some text y is) ∙ h.0
text_is Q word (Err e) text h is = absurd (none-some text (sym is))

-- a text that writes a number is UTF-8
pub not_refused : {T E : Type 0} (P : T → Type 0) (Q : E → Type 0) (U : Type 0) (r : Result T E) → MatchResult r P (λ e. (U → ⊥) × Q e) → U → ◌≡◌ {A = Option T} None (result_ok r) → ⊥
not_refused P Q U (Ok x) h u none = none-some x none
not_refused P Q U (Err e) h u none = h.0 u

pub decimal_is_utf8 : (word : List ℕ) (n : ℕ) → n < 2 ^ 64 → word ≡ decimal n → IsUtf8 word
decimal_is_utf8 word n small is = subst IsUtf8 (sym is) (IsUtf8-from_ascii (decimal n) (IsAscii-decimal n small))

-- a parsed number fits
pub parsed_fits : {E : Type 0} (text : List ℕ) (r : Result ℕ E) (m : ℕ) → ParsesUnsigned 64 10 text r → Some m ≡ result_ok r → m < 2 ^ 64
parsed_fits text (Ok x) m h is = subst (λ (k : ℕ). k < 2 ^ 64) (sym h.1 ∙ same_Some x m (sym is)) h.0.1
parsed_fits text (Err e) m h is = absurd (none-some m (sym is))

pub parsed_is : {E : Type 0} (word text : List ℕ) (r : Result ℕ E) (n : ℕ) → text ≡ word → ParsesUnsigned 64 10 text r → n < 2 ^ 64 → word ≡ decimal n → result_ok r ≡ Some n
parsed_is word text r n same h small is = ap result_ok (parse-decimal 64 n text r small small (same ∙ is) h)
