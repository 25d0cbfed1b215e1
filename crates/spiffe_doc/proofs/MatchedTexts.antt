-- The texts of entries, matched piece by piece.
use Rattle.std.proofs.Common.{◌≡◌, ℕ, ◌==◌, ◌||◌, true, false, List, [], ◌∷◌, ◌++◌, codes, append_assoc, Option, Some, None, refl, sym, ap, ◌∙◌, inl, inr}
use Rattle.std.specs.Prelude.{bytes_eq, is_some}
use Rattle.std.specs.List.{list_all, concat}
use Rattle.std.specs.Cmp.Lexicographic.{bytes_decides}
use Rattle.std.proofs.lemmas.Bool.{cases_Bool, not-true, or_parts, and_parts}
use Rattle.json.specs.Print.{escape, quoted}
use Rattle.json.specs.Run.{is_plain}
use Rattle.json.specs.Text.{content, plain}
use Rattle.json.proofs.Printed.Strings.{content-escape}
use Rattle.serde_json.specs.Data.{Data, object, string, Members, member}
use Rattle.serde_json.specs.Written.{compact_text, members_text}
use Rattle.serde_json.proofs.OnLiterals.{serde_json_on_literals}
use Rattle.base64.specs.Engines.{url_safe_no_pad}
use Rattle.base64.specs.GeneralPurpose.{encode_of}
use Rattle.spiffe_doc.specs.declared.key.Curve.{Curve}
use Rattle.spiffe_doc.specs.declared.key.PublicKey.{PublicKey}
use Rattle.spiffe_doc.specs.declared.key.PublicKey.TheVariants.{Ec, Rsa}
use Rattle.spiffe_doc.specs.declared.authority.Authority.{Authority}
use Rattle.spiffe_doc.specs.declared.authority.Authority.TheVariants.{X509, Jwt}
use Rattle.spiffe_doc.specs.Key.{curve_text}
use Rattle.spiffe_doc.specs.Authority.{IsAuthority}
use Rattle.spiffe_doc.specs.Text.{entry_tree, entry_text}
use Rattle.spiffe_doc.specs.Bundle.{same_kid}
use Rattle.spiffe_doc.specs.Private.Writing.{NeedsNoEscape, x509_point_tree, x509_rsa_tree, jwt_point_tree, jwt_rsa_tree}
use Rattle.spiffe_doc.specs.Private.Matching.{strip, strip_quote, after, after_quote, behind_member, is_kid_next}
use Rattle.spiffe_doc.proofs.MatchingLemmas.{strip-some, strip-same, after-append, after-nil}
use Rattle.spiffe_doc.proofs.PlainTexts.{escape-plain, plain_curve, url_safe_plain, x509_point_pieces, x509_rsa_pieces, jwt_point_pieces, jwt_rsa_pieces, x509_point-pieces, x509_rsa-pieces, jwt_point-pieces, jwt_rsa-pieces}

-- ---- up to a quotation mark

strip_quote-plain : (a b : List ℕ) → list_all is_plain a ≡ true → strip_quote (a ++ 34 ∷ b) ≡ Some b
unfolding strip_quote
strip_quote-plain [] b h = refl
strip_quote-plain (x ∷ a) b h =
    let parts = and_parts (is_plain x) _ h in
    let none = or_parts ((x == 34) || (x == 92)) _ (not-true _ parts.0) in
    let tests = or_parts (x == 34) _ none.0 in
    rw (tests.0) (strip_quote-plain a b parts.1)

-- ---- the texts of entries

-- each piece in turn
abbrev pub after_each : List (List ℕ) → Option (List ℕ) → Option (List ℕ)
after_each [] o = o
after_each (piece ∷ pieces) o = after_each pieces (after piece o)

after-concat : (pieces : List (List ℕ)) (o : Option (List ℕ)) → after (concat pieces) o ≡ after_each pieces o
after-concat [] o = after-nil o
after-concat (piece ∷ pieces) o = after-append piece (concat pieces) o ∙ after-concat pieces (after piece o)

-- a text that is put together from them
after-pieces : (text : List ℕ) (pieces : List (List ℕ)) (o : Option (List ℕ)) → text ≡ concat pieces → after text o ≡ after_each pieces o
after-pieces text pieces o same = ap (λ t. after t o) same ∙ after-concat pieces o

pub after-x509_point : (curve : Curve) (x y x5c : List ℕ) (o : Option (List ℕ)) → NeedsNoEscape x → NeedsNoEscape y → NeedsNoEscape x5c
    → after (compact_text (x509_point_tree curve x y x5c)) o ≡ after_each (x509_point_pieces curve x y x5c) o
after-x509_point curve x y x5c o hx hy h5 = after-pieces _ (x509_point_pieces curve x y x5c) o (x509_point-pieces curve x y x5c hx hy h5)

pub after-x509_rsa : (n e x5c : List ℕ) (o : Option (List ℕ)) → NeedsNoEscape n → NeedsNoEscape e → NeedsNoEscape x5c
    → after (compact_text (x509_rsa_tree n e x5c)) o ≡ after_each (x509_rsa_pieces n e x5c) o
after-x509_rsa n e x5c o hn he h5 = after-pieces _ (x509_rsa_pieces n e x5c) o (x509_rsa-pieces n e x5c hn he h5)

pub after-jwt_point : (kid : List ℕ) (curve : Curve) (x y : List ℕ) (o : Option (List ℕ)) → NeedsNoEscape x → NeedsNoEscape y
    → after (compact_text (jwt_point_tree kid curve x y)) o ≡ after_each (jwt_point_pieces kid curve x y) o
after-jwt_point kid curve x y o hx hy = after-pieces _ (jwt_point_pieces kid curve x y) o (jwt_point-pieces kid curve x y hx hy)

pub after-jwt_rsa : (kid n e : List ℕ) (o : Option (List ℕ)) → NeedsNoEscape n → NeedsNoEscape e
    → after (compact_text (jwt_rsa_tree kid n e)) o ≡ after_each (jwt_rsa_pieces kid n e) o
after-jwt_rsa kid n e o hn he = after-pieces _ (jwt_rsa_pieces kid n e) o (jwt_rsa-pieces kid n e hn he)

-- ---- the key id of an entry

strip_quote-quoted : (xs more : List ℕ) → list_all is_plain xs ≡ true → strip_quote ((escape xs ++ 34 ∷ []) ++ more) ≡ Some more
strip_quote-quoted xs more h = rw (escape-plain xs h, append_assoc xs (34 ∷ []) more) (strip_quote-plain xs more h)

-- behind the first member, which is a text
behind_member-text : (d : Data) (name text : List ℕ) (more : Members) → d ≡ object (member name (string text) more) → list_all is_plain name ≡ true → list_all is_plain text ≡ true
    → behind_member (compact_text d) ≡ Some (members_text true more)
unfolding after_quote strip_quote
behind_member-text d name text more same hn ht =
    let rest = members_text true more in
    rw (same) (ap (λ o. after_quote (after_quote o)) (strip_quote-quoted name (58 ∷ (quoted text ++ rest)) hn) ∙ strip_quote-quoted text rest ht)

-- an escaped text ends where its quotation mark is
escape-injective : (a b more rest : List ℕ) → escape a ++ 34 ∷ more ≡ escape b ++ 34 ∷ rest → a ≡ b
escape-injective a b more rest e =
    let both : Some a ≡ Some b = sym (content-escape a more) ∙ ap (content plain) e ∙ content-escape b rest in
    cc

-- so the texts of two key ids do not begin one text
is_some-strip_escape : (kid own more : List ℕ) → is_some (strip (escape kid ++ 34 ∷ []) ((escape own ++ 34 ∷ []) ++ more)) ≡ bytes_eq own kid
is_some-strip_escape kid own more = elim (cases_Bool (bytes_eq own kid)) [
  | inl same ↦
      let e = (bytes_decides own kid).0 same in
      rw (e, strip-same (escape kid ++ 34 ∷ []) more) (sym (rw e at same))
  | inr differ ↦ go (strip (escape kid ++ 34 ∷ []) ((escape own ++ 34 ∷ []) ++ more)) refl differ
]
  where
    go : (o : Option (List ℕ)) → strip (escape kid ++ 34 ∷ []) ((escape own ++ 34 ∷ []) ++ more) ≡ o → bytes_eq own kid ≡ false → is_some o ≡ bytes_eq own kid
    go None e differ = sym differ
    go (Some rest) e differ =
        let spelled = strip-some (escape kid ++ 34 ∷ []) ((escape own ++ 34 ∷ []) ++ more) rest e in
        let same = escape-injective own kid more rest (sym (append_assoc (escape own) (34 ∷ []) more) ∙ spelled ∙ append_assoc (escape kid) (34 ∷ []) rest) in
        let yes = (bytes_decides own kid).1 same in
        cc

-- the member behind the first
is_kid_next-kty : (kid : List ℕ) (d : Data) (more : Members) → is_kid_next kid (Some (members_text true (member (codes "kty") d more))) ≡ false
unfolding after strip serde_json_on_literals
is_kid_next-kty kid d more = refl

after-kid : (own : List ℕ) (more : Members)
    → after (codes ",\"kid\":\"") (Some (members_text true (member (codes "kid") (string own) more))) ≡ Some ((escape own ++ 34 ∷ []) ++ members_text true more)
unfolding after strip serde_json_on_literals
after-kid own more = refl

is_some-after_escape : (kid own more : List ℕ) → is_some (after (codes "\"") (after (escape kid) (Some ((escape own ++ 34 ∷ []) ++ more)))) ≡ bytes_eq own kid
unfolding after
is_some-after_escape kid own more =
    ap is_some (sym (after-append (escape kid) (codes "\"") (Some ((escape own ++ 34 ∷ []) ++ more)))) ∙ is_some-strip_escape kid own more

is_kid_next-kid : (kid own : List ℕ) (more : Members) → is_kid_next kid (Some (members_text true (member (codes "kid") (string own) more))) ≡ bytes_eq own kid
is_kid_next-kid kid own more =
    ap (λ o. is_some (after (codes "\"") (after (escape kid) o))) (after-kid own more) ∙ is_some-after_escape kid own (members_text true more)

-- an entry whose second member is its key id, or is its type
is_kid_next-tree_kid : (d : Data) (name text kid own : List ℕ) (more : Members) → d ≡ object (member name (string text) (member (codes "kid") (string own) more))
    → list_all is_plain name ≡ true → list_all is_plain text ≡ true → is_kid_next kid (behind_member (compact_text d)) ≡ bytes_eq own kid
is_kid_next-tree_kid d name text kid own more same hn ht =
    ap (is_kid_next kid) (behind_member-text d name text (member (codes "kid") (string own) more) same hn ht) ∙ is_kid_next-kid kid own more

is_kid_next-tree_kty : (d : Data) (name text kid : List ℕ) (value : Data) (more : Members) → d ≡ object (member name (string text) (member (codes "kty") value more))
    → list_all is_plain name ≡ true → list_all is_plain text ≡ true → is_kid_next kid (behind_member (compact_text d)) ≡ false
is_kid_next-tree_kty d name text kid value more same hn ht =
    ap (is_kid_next kid) (behind_member-text d name text (member (codes "kty") value more) same hn ht) ∙ is_kid_next-kty kid value more

-- a key id is found in the text of an entry if it is the entry's
pub is_kid_next-entry : (other : Authority) → IsAuthority other → (kid : List ℕ) (key : PublicKey)
    → is_kid_next kid (behind_member (entry_text other)) ≡ same_kid other (Jwt kid key)
unfolding entry_text
is_kid_next-entry (X509 (Ec k) der) valid kid key = is_kid_next-tree_kty (entry_tree (X509 (Ec k) der)) (codes "crv") (curve_text k.curve) kid _ _ refl refl (plain_curve k.curve)
is_kid_next-entry (X509 (Rsa k) der) valid kid key =
    is_kid_next-tree_kty (entry_tree (X509 (Rsa k) der)) (codes "e") (encode_of url_safe_no_pad k.e) kid _ _ refl refl (url_safe_plain k.e valid.0.e.octets)
is_kid_next-entry (Jwt own (Ec k)) valid kid key = is_kid_next-tree_kid (entry_tree (Jwt own (Ec k))) (codes "crv") (curve_text k.curve) kid own _ refl refl (plain_curve k.curve)
is_kid_next-entry (Jwt own (Rsa k)) valid kid key =
    is_kid_next-tree_kid (entry_tree (Jwt own (Rsa k))) (codes "e") (encode_of url_safe_no_pad k.e) kid own _ refl refl (url_safe_plain k.e valid.1.e.octets)
