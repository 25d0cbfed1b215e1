-- No canonical text has a line feed.
use Rattle.std.proofs.Common.{◌≡◌, ℕ, ◌+◌, ◌<◌, ◌^◌, ◌/◌, ◌%◌, arith, Bool, true, false, cond, nat_lt, List, [], ◌∷◌, ◌++◌, Option, Some, None, refl, sym, ap, ◌∙◌, ne_eqb, eqb-true, true≢false}
use Rattle.std.proofs.lemmas.List.Elements.{All-head, All-tail}
use Rattle.std.specs.Prelude.{◌==◌, ◌||◌, codes, decimal, IfSome}
use Rattle.std.specs.List.{list_any, AllPass}
use Rattle.std.specs.Char.{digit_char}
use Rattle.std.proofs.lemmas.Fmt.{decimal_is_IsNumeral}
use Rattle.json.specs.Print.{escape_letter, escape_byte, escape, quoted}
use Rattle.serde_json.specs.Data.{Data, Items, Members, null, boolean, number, string, array, object, unsigned, negative, float, no_items, item, no_members, member}
use Rattle.serde_json.specs.Written.{compact_text, items_text, members_text, comma_if}
use Rattle.spiffe_doc.specs.declared.key.PublicKey.TheVariants.{Ec, Rsa}
use Rattle.spiffe_doc.specs.declared.authority.Authority.{Authority}
use Rattle.spiffe_doc.specs.declared.authority.Authority.TheVariants.{X509, Jwt}
use Rattle.spiffe_doc.specs.Authority.{BundleValue}
use Rattle.spiffe_doc.specs.Bundle.{IsBundle}
use Rattle.spiffe_doc.specs.Text.{entry_tree, entry_trees, document_tree, number_member, text_of}
use Rattle.spiffe_doc.specs.Name.{IsName, is_name_byte}
use Rattle.wire.specs.RequestForm.{IsWord, IsNameWord, IsOneLine}
use Rattle.wire.specs.ReplyForm.{Found, Bundle, IsLined}
use Rattle.wire.proofs.Heads.{digits_are_line}
use Rattle.wire.proofs.Lines.{both_lines}

-- ---- strings

one_byte : (byte : ℕ) → (byte == 10) ≡ false → IsOneLine (byte ∷ [])
one_byte byte other = ap (λ (b : Bool). b || false) other

letter_is_other : (x : ℕ) → (escape_letter x == 10) ≡ false
letter_is_other x = by (x == 34) (x == 92) refl refl (x == 8) (x == 12) (x == 10) (x == 13) (x == 9)
  where
    by : (a b : Bool) → (x == 34) ≡ a → (x == 92) ≡ b → (c d e f g : Bool) → (cond (a || b) x (cond c 98 (cond d 102 (cond e 110 (cond f 114 (cond g 116 0))))) == 10) ≡ false
    by true b is more c d e f g = ne_eqb x 10 (λ ten. omega (arith, ten, eqb-true x 34 is))
    by false true is more c d e f g = ne_eqb x 10 (λ ten. omega (arith, ten, eqb-true x 92 more))
    by false false is more true d e f g = refl
    by false false is more false true e f g = refl
    by false false is more false false true f g = refl
    by false false is more false false false true g = refl
    by false false is more false false false false true = refl
    by false false is more false false false false false = refl

digit_is_other : (n : ℕ) → n < 16 → (digit_char n == 10) ≡ false
digit_is_other n small = by (nat_lt n 10)
  where
    by : (b : Bool) → (cond b (48 + n) (87 + n) == 10) ≡ false
    by true = ne_eqb (48 + n) 10 (λ ten. omega (arith, ten))
    by false = ne_eqb (87 + n) 10 (λ ten. omega (arith, ten))

byte_is_line : (x : ℕ) → IsOneLine (escape_byte x)
unfolding escape_byte
byte_is_line x = by (nat_lt 0 (escape_letter x)) (nat_lt x 32) refl
  where
    by : (a b : Bool) → nat_lt x 32 ≡ b → IsOneLine (cond a (92 ∷ escape_letter x ∷ []) (cond b (92 ∷ 117 ∷ 48 ∷ 48 ∷ digit_char (x / 16) ∷ digit_char (x % 16) ∷ []) (x ∷ [])))
    by true b is = one_byte (escape_letter x) (letter_is_other x)
    by false true is =
        let small : x < 32 = grind (arith, is) in
        let high = one_byte (digit_char (x / 16)) (digit_is_other (x / 16) (omega (arith, small))) in
        let low = one_byte (digit_char (x % 16)) (digit_is_other (x % 16) (omega (arith, small))) in
        both_lines (digit_char (x / 16) ∷ []) (digit_char (x % 16) ∷ []) high low
    by false false is = one_byte x (ne_eqb x 10 (λ ten. true≢false (sym (ap (λ (y : ℕ). nat_lt y 32) ten) ∙ is)))

escape_is_line : (s : List ℕ) → IsOneLine (escape s)
escape_is_line [] = refl
escape_is_line (x ∷ xs) = both_lines (escape_byte x) (escape xs) (byte_is_line x) (escape_is_line xs)

quoted_is_line : (s : List ℕ) → IsOneLine (quoted s)
quoted_is_line s = both_lines (escape s) (34 ∷ []) (escape_is_line s) refl

-- ---- trees whose numbers have 8 bytes

abbrev mutual
  HasShortNumbers : Data → Type 0
  HasShortNumbers null = Unit {0}
  HasShortNumbers (boolean b) = Unit {0}
  HasShortNumbers (number (unsigned n)) = n < 2 ^ 64
  HasShortNumbers (number (negative z)) = ⊥
  HasShortNumbers (number (float x)) = ⊥
  HasShortNumbers (string s) = Unit {0}
  HasShortNumbers (array ds) = HaveShortNumbers ds
  HasShortNumbers (object ms) = MembersHaveShortNumbers ms

  HaveShortNumbers : Items → Type 0
  HaveShortNumbers no_items = Unit {0}
  HaveShortNumbers (item d ds) = HasShortNumbers d × HaveShortNumbers ds

  MembersHaveShortNumbers : Members → Type 0
  MembersHaveShortNumbers no_members = Unit {0}
  MembersHaveShortNumbers (member k d ms) = HasShortNumbers d × MembersHaveShortNumbers ms

comma_is_line : (later : Bool) → IsOneLine (comma_if later)
comma_is_line true = refl
comma_is_line false = refl

mutual
  text_is_line : (d : Data) → HasShortNumbers d → IsOneLine (compact_text d)
  text_is_line null short = refl
  text_is_line (boolean true) short = refl
  text_is_line (boolean false) short = refl
  text_is_line (number (unsigned n)) short = digits_are_line (decimal n) (decimal_is_IsNumeral n short).0.1
  text_is_line (number (negative z)) short = absurd short
  text_is_line (number (float x)) short = absurd short
  text_is_line (string s) short = quoted_is_line s
  text_is_line (array ds) short = items_are_line false ds short
  text_is_line (object ms) short = members_are_line false ms short

  items_are_line : (later : Bool) (ds : Items) → HaveShortNumbers ds → IsOneLine (items_text later ds)
  items_are_line later no_items short = refl
  items_are_line later (item d ds) short =
      both_lines (comma_if later) (compact_text d ++ items_text true ds) (comma_is_line later) (both_lines (compact_text d) (items_text true ds) (text_is_line d short.0) (items_are_line true ds short.1))

  members_are_line : (later : Bool) (ms : Members) → MembersHaveShortNumbers ms → IsOneLine (members_text later ms)
  members_are_line later no_members short = refl
  members_are_line later (member k d ms) short =
      both_lines (comma_if later) (quoted k ++ 58 ∷ (compact_text d ++ members_text true ms)) (comma_is_line later)
      (both_lines (quoted k) (58 ∷ (compact_text d ++ members_text true ms)) (quoted_is_line k)
      (both_lines (compact_text d) (members_text true ms) (text_is_line d short.0) (members_are_line true ms short.1)))

-- ---- documents

entry_is_short : (a : Authority) → HasShortNumbers (entry_tree a)
entry_is_short (X509 (Ec key) der) = (tt, (tt, (tt, (tt, ((tt, tt), (tt, tt))))))
entry_is_short (X509 (Rsa key) der) = (tt, (tt, (tt, (tt, ((tt, tt), tt)))))
entry_is_short (Jwt kid (Ec key)) = (tt, (tt, (tt, (tt, (tt, (tt, tt))))))
entry_is_short (Jwt kid (Rsa key)) = (tt, (tt, (tt, (tt, (tt, tt)))))

entries_are_short : (authorities : List Authority) → HaveShortNumbers (entry_trees authorities)
entries_are_short [] = tt
entries_are_short (a ∷ authorities) = (entry_is_short a, entries_are_short authorities)

number_is_short : (name : List ℕ) (n : Option ℕ) (more : Members) → IfSome n (λ m. m < 2 ^ 64) → MembersHaveShortNumbers more → MembersHaveShortNumbers (number_member name n more)
number_is_short name None more small short = short
number_is_short name (Some n) more small short = (small, short)

-- no line feed is in a canonical text
pub text_is_one_line : (bundle : BundleValue) → IsBundle bundle → IsOneLine (text_of bundle)
unfolding text_of
text_is_one_line bundle valid =
    text_is_line (document_tree bundle) (entries_are_short bundle.authorities, number_is_short (codes "spiffe_refresh_hint") bundle.refresh_hint _ valid.hint_fits (number_is_short (codes "spiffe_sequence") bundle.sequence no_members valid.sequence_fits tt))

-- ---- names

name_byte_is_other : (byte : ℕ) → is_name_byte byte ≡ true → ((byte == 32) ≡ false) × ((byte == 10) ≡ false)
name_byte_is_other byte is = (ne_eqb byte 32 (λ e. true≢false (sym is ∙ ap is_name_byte e)), ne_eqb byte 10 (λ e. true≢false (sym is ∙ ap is_name_byte e)))

names_are_words : (name : List ℕ) → AllPass is_name_byte name → IsWord name × IsOneLine name
names_are_words [] all = (refl, refl)
names_are_words (byte ∷ name) all =
    let other = name_byte_is_other byte (All-head (λ x. is_name_byte x ≡ true) byte name all) in
    let rest = names_are_words name (All-tail (λ x. is_name_byte x ≡ true) byte name all) in
    (ap (λ (b : Bool). b || list_any (λ x. x == 32) name) other.0 ∙ rest.0, ap (λ (b : Bool). b || list_any (λ x. x == 10) name) other.1 ∙ rest.1)

pub name_is_word : (name : List ℕ) → IsName name → IsNameWord name × IsOneLine name
name_is_word name valid = let both = names_are_words name valid.allowed in ((both.0, omega (arith, valid.short)), both.1)

-- ---- lines

pub found_is_lined : (bundle : BundleValue) → IsBundle bundle → IsLined (Found (text_of bundle))
found_is_lined bundle valid = (tt, both_lines (codes "found" ++ 32 ∷ []) (text_of bundle) refl (text_is_one_line bundle valid))

pub bundle_is_lined : (name : List ℕ) (bundle : BundleValue) → IsName name → IsBundle bundle → IsLined (Bundle name (text_of bundle))
bundle_is_lined name bundle named valid =
    let word = name_is_word name named in
    (word.0, both_lines (codes "bundle" ++ 32 ∷ []) (name ++ 32 ∷ text_of bundle) refl (both_lines name (32 ∷ text_of bundle) word.1 (text_is_one_line bundle valid)))
