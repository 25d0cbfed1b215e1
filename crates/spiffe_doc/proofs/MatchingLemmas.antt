-- A text that is matched piece by piece.
use Rattle.std.proofs.Common.{◌≡◌, ◌≢◌, ℕ, ◌+◌, ◌%◌, ◌<◌, ◌≤◌, ◌==◌, true, false, List, [], ◌∷◌, ◌++◌, length, take, drop, get_or, Option, Some, None, MatchOption, refl, sym, ap, ◌∙◌, arith, inl, inr}
use Rattle.std.specs.Prelude.{bytes_eq, nat_eq, option_copied}
use Rattle.std.specs.Cmp.Lexicographic.{pointwise}
use Rattle.std.proofs.lemmas.Bool.{cases_Bool, eq-eqb, ne_eqb, eqb-true}
use Rattle.std.specs.Cmp.{unsigned_Decides}
use Rattle.std.proofs.lemmas.Bool.Decides.{nat_tests}
use Rattle.std.proofs.lemmas.List.{drop_more, drop_all, length-take-le, take-append-drop}
use Rattle.std.proofs.lemmas.Slice.Eq.{strip_prefix_is}
use denote.Ref.{Bor}
use Rattle.json.specs.Print.{escape_byte, escape}
use Rattle.base64.specs.GeneralPurpose.{encode_of}
use Rattle.base64.proofs.EngineFacts.{encode_of-append}
use Rattle.base64.specs.declared.engine.general_purpose.GeneralPurpose.{GeneralPurpose}
use Rattle.spiffe_doc.specs.Private.Matching.{strip, strip_quote, after, after_quote, is_whole}

-- ---- one piece

-- a text with something behind the piece is the piece and that
pub strip-some : (a s r : List ℕ) → strip a s ≡ Some r → s ≡ a ++ r
unfolding strip
strip-some [] s r e = cc
strip-some (x ∷ a) [] r e = cc
strip-some (x ∷ a) (y ∷ s) r e = elim (cases_Bool (y == x)) [
  | inl same ↦
      let here = eqb-true y x same in
      let more = strip-some a s r (rw same at e) in
      cc
  | inr differ ↦ cc (rw differ at e)
]

pub strip-same : (a r : List ℕ) → strip a (a ++ r) ≡ Some r
unfolding strip
strip-same [] r = refl
strip-same (x ∷ a) r = rw (eq-eqb x x refl) (strip-same a r)

strip-none : (a s : List ℕ) → ((r : List ℕ) → s ≢ a ++ r) → strip a s ≡ None
strip-none a s h = go (strip a s) refl
  where
    go : (o : Option (List ℕ)) → strip a s ≡ o → strip a s ≡ None
    go None e = e
    go (Some r) e = absurd (h r (strip-some a s r e))

strip-append : (a b s : List ℕ) → strip (a ++ b) s ≡ after b (strip a s)
unfolding strip after
strip-append [] b s = refl
strip-append (x ∷ a) b [] = refl
strip-append (x ∷ a) b (y ∷ s) = elim (cases_Bool (y == x)) [
  | inl same ↦ rw (same) (strip-append a b s)
  | inr differ ↦ rw (differ) refl
]

pub after-append : (a b : List ℕ) (o : Option (List ℕ)) → after (a ++ b) o ≡ after b (after a o)
unfolding after
after-append a b None = refl
after-append a b (Some s) = strip-append a b s

pub after-nil : (o : Option (List ℕ)) → after [] o ≡ o
unfolding after strip
after-nil None = refl
after-nil (Some s) = refl

-- what `strip_prefix` gives
pub strip-prefix : (s p : List ℕ) (r : Option (Bor (List ℕ))) → MatchOption r (pointwise nat_eq (take (length p) s) p ≡ false) (λ x. (pointwise nat_eq (take (length p) s) p ≡ true) × (x.now ≡ drop (length p) s) × (length x.now + length p ≡ length s)) → option_copied r ≡ strip p s
strip-prefix s p r h = go r (strip_prefix_is unsigned_Decides s p r h)
  where
    go : (o : Option (Bor (List ℕ))) → MatchOption o ((rest : List ℕ) → s ≢ p ++ rest) (λ x. s ≡ p ++ x.now) → option_copied o ≡ strip p s
    go None none = sym (strip-none p s none)
    go (Some x) found = sym (ap (strip p) found ∙ strip-same p x.now)

-- the steps of what is left
pub after-none : (a : List ℕ) (o : Option (List ℕ)) → o ≡ None → o ≡ after a o
unfolding after
after-none a o none = rw (none) refl

pub after-some : (a s : List ℕ) (o r : Option (List ℕ)) → o ≡ Some s → r ≡ strip a s → r ≡ after a o
unfolding after
after-some a s o r some same = rw (some) same

pub after_quote-none : (o : Option (List ℕ)) → o ≡ None → o ≡ after_quote o
unfolding after_quote
after_quote-none o none = rw (none) refl

pub after_quote-some : (s : List ℕ) (o : Option (List ℕ)) (r : Option (Bor (List ℕ))) → o ≡ Some s
    → MatchOption r (strip_quote s ≡ None) (λ x. strip_quote s ≡ Some x.now) → option_copied r ≡ after_quote o
unfolding after_quote
after_quote-some s o r some h = rw (some) (go r h)
  where
    go : (r : Option (Bor (List ℕ))) → MatchOption r (strip_quote s ≡ None) (λ x. strip_quote s ≡ Some x.now) → option_copied r ≡ strip_quote s
    go None none = sym none
    go (Some x) found = sym found

-- one more piece behind known ones, of equal texts
pub behind : (p q : List ℕ) (r o known : Option (List ℕ)) → r ≡ after p o → p ≡ q → o ≡ known → r ≡ after q known
behind p q r o known step same before = rw (same, before) at step

-- the whole text matches if it is the piece
pub is_whole-strip : (t s : List ℕ) → is_whole (strip t s) ≡ bytes_eq s t
unfolding strip
is_whole-strip [] [] = refl
is_whole-strip [] (y ∷ s) = grind (arith, nat_tests)
is_whole-strip (x ∷ t) [] = refl
is_whole-strip (x ∷ t) (y ∷ s) = elim (cases_Bool (y == x)) [
  | inl same ↦ rw (same) (is_whole-strip t s)
  | inr differ ↦ rw (differ) refl
]

-- ---- the loops over bytes

-- 48 bytes are whole groups of three
pub after-chunk : (e : GeneralPurpose) (bytes : List ℕ) (o : Option (List ℕ)) → 48 < length bytes
    → after (encode_of e bytes) o ≡ after (encode_of e (drop 48 bytes)) (after (encode_of e (take 48 bytes)) o)
after-chunk e bytes o long =
    let whole : length (take 48 bytes) % 3 ≡ 0 = rw (length-take-le 48 bytes (omega arith)) refl in
    ap (λ m. after (encode_of e m) o) (sym (take-append-drop 48 bytes))
    ∙ ap (λ text. after text o) (encode_of-append e (take 48 bytes) (drop 48 bytes) whole)
    ∙ after-append (encode_of e (take 48 bytes)) (encode_of e (drop 48 bytes)) o

pub after-escape_next : (s : List ℕ) (i : ℕ) (o : Option (List ℕ)) → i < length s
    → after (escape (drop i s)) o ≡ after (escape (drop (i + 1) s)) (after (escape_byte (get_or s i 0)) o)
after-escape_next s i o inside =
    ap (λ l. after (escape l) o) (drop_more s i 0 inside) ∙ after-append (escape_byte (get_or s i 0)) (escape (drop (i + 1) s)) o

pub after-escape_end : (s : List ℕ) (i : ℕ) (o : Option (List ℕ)) → length s ≤ i → after (escape (drop i s)) o ≡ o
after-escape_end s i o past = ap (λ l. after (escape l) o) (drop_all i s past) ∙ after-nil o

-- at each byte of the loop that looks for a quotation mark
pub strip_quote-here : (s : List ℕ) (i : ℕ) → i < length s → get_or s i 0 ≡ 34 → strip_quote (drop i s) ≡ Some (drop (i + 1) s)
unfolding strip_quote
strip_quote-here s i inside here = rw (drop_more s i 0 inside, eq-eqb _ 34 here) refl

pub strip_quote-next : (s : List ℕ) (i : ℕ) → i < length s → get_or s i 0 ≢ 34 → strip_quote (drop i s) ≡ strip_quote (drop (i + 1) s)
unfolding strip_quote
strip_quote-next s i inside other = rw (drop_more s i 0 inside, ne_eqb _ 34 other) refl

pub strip_quote-end : (s : List ℕ) (i : ℕ) → length s ≤ i → strip_quote (drop i s) ≡ None
unfolding strip_quote
strip_quote-end s i past = rw (drop_all i s past) refl
