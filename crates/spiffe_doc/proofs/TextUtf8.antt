-- A compact text is UTF-8 if its tree's texts are.
use Rattle.std.proofs.Common.{◌≡◌, ℕ, ◌<◌, ◌^◌, List, [], ◌∷◌, Bool, true, false, codes, Option, Some, None, refl}
use Rattle.std.specs.Prelude.{IfSome}
use Rattle.std.specs.List.{AllByRecursion}
use Rattle.std.specs.Str.{IsUtf8}
use Rattle.std.proofs.lemmas.Str.{IsUtf8-append, IsUtf8-nil, IsUtf8-from_ascii}
use Rattle.std.proofs.lemmas.Fmt.{IsAscii-decimal}
use Rattle.json.proofs.Printed.Utf8.{are_ascii, IsUtf8-are_ascii, IsUtf8-quoted, IsUtf8-boolean}
use Rattle.serde_json.specs.Data.{Data, null, boolean, number, string, array, object, Items, no_items, item, Members, no_members, member}
use Rattle.serde_json.specs.Written.{number_text, compact_text, items_text, members_text, comma_if}
use Rattle.base64.specs.Engines.{standard, url_safe_no_pad}
use Rattle.base64.specs.GeneralPurpose.{encode_of}
use Rattle.base64.specs.declared.engine.general_purpose.GeneralPurpose.{GeneralPurpose}
use Rattle.base64.proofs.EngineFacts.{IsAscii-encode_of}
use Rattle.spiffe_doc.specs.declared.key.Curve.{Curve}
use Rattle.spiffe_doc.specs.declared.key.Curve.TheVariants.{P256, P384, P521}
use Rattle.spiffe_doc.specs.declared.key.PublicKey.TheVariants.{Ec, Rsa}
use Rattle.spiffe_doc.specs.declared.authority.Authority.{Authority}
use Rattle.spiffe_doc.specs.declared.authority.Authority.TheVariants.{X509, Jwt}
use Rattle.spiffe_doc.specs.Authority.{IsAuthority, BundleValue}
use Rattle.spiffe_doc.specs.Key.{curve_text}
use Rattle.spiffe_doc.specs.Text.{entry_tree, entry_text, entry_trees, number_member, document_tree}

ascii : (xs : List ℕ) → are_ascii xs ≡ true → IsUtf8 xs
ascii = IsUtf8-are_ascii

comma : (later : Bool) → IsUtf8 (comma_if later)
comma true = ascii _ refl
comma false = IsUtf8-nil

front : (x : ℕ) (xs : List ℕ) → IsUtf8 (x ∷ []) → IsUtf8 xs → IsUtf8 (x ∷ xs)
front x xs here rest = IsUtf8-append (x ∷ []) xs here rest

-- each text of the tree, and each name, is UTF-8
abbrev mutual
  pub HasTexts : Data → Type 0
  HasTexts null = Unit {0}
  HasTexts (boolean b) = Unit {0}
  HasTexts (number n) = IsUtf8 (number_text n)
  HasTexts (string s) = IsUtf8 s
  HasTexts (array ds) = ItemsHaveTexts ds
  HasTexts (object ms) = MembersHaveTexts ms

  pub ItemsHaveTexts : Items → Type 0
  ItemsHaveTexts no_items = Unit {0}
  ItemsHaveTexts (item d ds) = HasTexts d × ItemsHaveTexts ds

  pub MembersHaveTexts : Members → Type 0
  MembersHaveTexts no_members = Unit {0}
  MembersHaveTexts (member k d ms) = IsUtf8 k × HasTexts d × MembersHaveTexts ms

mutual
  pub IsUtf8-compact_text : (d : Data) → HasTexts d → IsUtf8 (compact_text d)
  IsUtf8-compact_text null h = ascii _ refl
  IsUtf8-compact_text (boolean b) h = IsUtf8-boolean b
  IsUtf8-compact_text (number n) h = h
  IsUtf8-compact_text (string s) h = IsUtf8-quoted s h
  IsUtf8-compact_text (array ds) h = front 91 _ (ascii _ refl) (IsUtf8-items_text false ds h)
  IsUtf8-compact_text (object ms) h = front 123 _ (ascii _ refl) (IsUtf8-members_text false ms h)

  IsUtf8-items_text : (later : Bool) (ds : Items) → ItemsHaveTexts ds → IsUtf8 (items_text later ds)
  IsUtf8-items_text later no_items h = ascii _ refl
  IsUtf8-items_text later (item d ds) h = IsUtf8-append _ _ (comma later) (IsUtf8-append _ _ (IsUtf8-compact_text d h.0) (IsUtf8-items_text true ds h.1))

  IsUtf8-members_text : (later : Bool) (ms : Members) → MembersHaveTexts ms → IsUtf8 (members_text later ms)
  IsUtf8-members_text later no_members h = ascii _ refl
  IsUtf8-members_text later (member k d ms) h =
      IsUtf8-append _ _ (comma later) (IsUtf8-append _ _ (IsUtf8-quoted k h.0) (front 58 _ (ascii _ refl) (IsUtf8-append _ _ (IsUtf8-compact_text d h.1) (IsUtf8-members_text true ms h.2))))

-- ---- the texts of a bundle's tree

encoded : (e : GeneralPurpose) (bytes : List ℕ) → IsUtf8 (encode_of e bytes)
encoded e bytes = IsUtf8-from_ascii _ (IsAscii-encode_of e bytes)

curve : (c : Curve) → IsUtf8 (curve_text c)
curve P256 = ascii _ refl
curve P384 = ascii _ refl
curve P521 = ascii _ refl

entry_texts : (a : Authority) → IsAuthority a → HasTexts (entry_tree a)
entry_texts (X509 (Ec key) der) h = (
  ascii _ refl,
  curve key.curve,
  (
    ascii _ refl,
    ascii _ refl,
    (
      ascii _ refl,
      ascii _ refl,
      (
        ascii _ refl,
        encoded url_safe_no_pad key.x,
        (ascii _ refl, (encoded standard der, tt), (ascii _ refl, encoded url_safe_no_pad key.y, tt)),
      ),
    ),
  ),
)
entry_texts (X509 (Rsa key) der) h = (
  ascii _ refl,
  encoded url_safe_no_pad key.e,
  (
    ascii _ refl,
    ascii _ refl,
    (
      ascii _ refl,
      encoded url_safe_no_pad key.n,
      (ascii _ refl, ascii _ refl, (ascii _ refl, (encoded standard der, tt), tt)),
    ),
  ),
)
entry_texts (Jwt kid (Ec key)) h = (
  ascii _ refl,
  curve key.curve,
  (
    ascii _ refl,
    h.0.text,
    (
      ascii _ refl,
      ascii _ refl,
      (
        ascii _ refl,
        ascii _ refl,
        (ascii _ refl, encoded url_safe_no_pad key.x, (ascii _ refl, encoded url_safe_no_pad key.y, tt)),
      ),
    ),
  ),
)
entry_texts (Jwt kid (Rsa key)) h = (
  ascii _ refl,
  encoded url_safe_no_pad key.e,
  (
    ascii _ refl,
    h.0.text,
    (
      ascii _ refl,
      ascii _ refl,
      (ascii _ refl, encoded url_safe_no_pad key.n, (ascii _ refl, ascii _ refl, tt)),
    ),
  ),
)

-- the text of an authority is UTF-8
pub entry_utf8 : (a : Authority) → IsAuthority a → IsUtf8 (entry_text a)
unfolding entry_text
entry_utf8 a h = IsUtf8-compact_text (entry_tree a) (entry_texts a h)

entries_texts : (xs : List Authority) → AllByRecursion IsAuthority xs → ItemsHaveTexts (entry_trees xs)
entries_texts [] h = tt
entries_texts (a ∷ xs) h = (entry_texts a h.0, entries_texts xs h.1)

number_texts : (name : List ℕ) (n : Option ℕ) (more : Members) → IsUtf8 name → IfSome n (λ n. n < 2 ^ 64) → MembersHaveTexts more → MembersHaveTexts (number_member name n more)
number_texts name None more key h rest = rest
number_texts name (Some n) more key h rest = (key, IsUtf8-from_ascii _ (IsAscii-decimal n h), rest)

-- the canonical text is UTF-8
pub document_utf8 : (p : BundleValue) → IfSome p.sequence (λ n. n < 2 ^ 64) → IfSome p.refresh_hint (λ n. n < 2 ^ 64) → AllByRecursion IsAuthority p.authorities → IsUtf8 (compact_text (document_tree p))
document_utf8 p s h valid =
    IsUtf8-compact_text (document_tree p) (
      ascii _ refl,
      entries_texts p.authorities valid,
      number_texts (codes "spiffe_refresh_hint") p.refresh_hint _ (ascii _ refl) h (number_texts (codes "spiffe_sequence") p.sequence _ (ascii _ refl) s tt),
    )
