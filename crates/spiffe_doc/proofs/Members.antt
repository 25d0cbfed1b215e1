-- The members of an entry are read as what their texts encode, and as nothing else.
use Rattle.std.proofs.Common.{◌≡◌, ◌≢◌, ℕ, List, codes, bytes_eq, Bool, true, Option, Some, None, refl, sym, ap, ◌∙◌, inl, inr, eq-eqb, lt-ltb, le-leb}
use Rattle.std.specs.Prelude.{option_and_then}
use Rattle.std.specs.Cmp.Lexicographic.{bytes_decides}
use Rattle.std.proofs.lemmas.Bool.{cases_Bool, and_parts, eqb-true, ltb-true, leb-true}
use Rattle.std.proofs.lemmas.Str.{IsUtf8-from_is_utf8, is_utf8-from_IsUtf8}
use Rattle.serde_json.specs.Data.{Data, null, boolean, number, object, array, string, Items, no_items, item}
use Rattle.serde_json.specs.Find.{get, as_array}
use Rattle.base64.specs.Engines.{standard, url_safe_no_pad}
use Rattle.base64.specs.GeneralPurpose.{encode_of, IsBytes}
use Rattle.spiffe_doc.specs.declared.key.Curve.{Curve}
use Rattle.spiffe_doc.specs.declared.key.Curve.TheVariants.{P256, P384, P521}
use Rattle.spiffe_doc.specs.declared.entry.KeyType.{KeyType}
use Rattle.spiffe_doc.specs.declared.entry.KeyType.TheVariants as types
use Rattle.spiffe_doc.specs.declared.entry.KeyUse.{KeyUse}
use Rattle.spiffe_doc.specs.declared.entry.KeyUse.TheVariants as uses
use Rattle.spiffe_doc.specs.Key.{curve_text, IsCoordinate, IsRsaMember}
use Rattle.spiffe_doc.specs.Authority.{IsCertificate, IsKeyId}
use Rattle.spiffe_doc.specs.Entry.{member_text, HasText, HasBytes, HasCertificate, HasKnownType, HasKnownUse, HasSomeCertificate, HasSomeKeyId}
use Rattle.spiffe_doc.specs.Judgement.{if_passes, encoded_bytes, key_type_named, key_use_named, curve_named, key_type, key_use, key_bytes, coordinate, rsa_member, only_text, der_bytes, certificate, key_id}
use Rattle.spiffe_doc.proofs.EncodedLemmas.{encoded_bytes-some, encoded_bytes-encode_of}

filtered-some : {A : Type 0} (test : A → Bool) (o : Option A) (x : A) → if_passes test o ≡ Some x → (o ≡ Some x) × (test x ≡ true)
filtered-some test None x h = cc h
filtered-some test (Some y) x h = elim (cases_Bool (test y)) [
  | inl passes ↦
      let same : y ≡ x = cc (rw passes at h) in
      (ap Some same, ap test (sym same) ∙ passes)
  | inr fails ↦ cc (rw fails at h)
]

-- what gives no value under any, gives none
none_where : {A : Type 0} (o : Option A) → ((x : A) → o ≡ Some x → ⊥) → o ≡ None
none_where None h = refl
none_where (Some x) h = absurd (h x refl)

-- ---- key members

key_bytes-some : (name : List ℕ) (entry : Data) (b : List ℕ) → key_bytes name entry ≡ Some b → IsBytes b × HasBytes entry name b
unfolding key_bytes
key_bytes-some name entry b h = go (member_text name entry) h
  where
    go : (o : Option (List ℕ)) → option_and_then (encoded_bytes url_safe_no_pad) o ≡ Some b → IsBytes b × (o ≡ Some (encode_of url_safe_no_pad b))
    go None h = cc h
    go (Some text) h = let p = encoded_bytes-some url_safe_no_pad text b h in (p.0, ap Some p.1)

pub coordinate-some : (curve : Curve) (name : List ℕ) (entry : Data) (b : List ℕ) → coordinate curve name entry ≡ Some b → IsCoordinate curve b × HasBytes entry name b
coordinate-some curve name entry b h =
    let p = filtered-some _ (key_bytes name entry) b h in
    let k = key_bytes-some name entry b p.0 in
    (record { whole = eqb-true _ _ p.1; octets = k.0 }, k.1)

pub coordinate-encoded : (curve : Curve) (name : List ℕ) (entry : Data) (b : List ℕ) → IsCoordinate curve b → HasBytes entry name b → coordinate curve name entry ≡ Some b
unfolding key_bytes
coordinate-encoded curve name entry b h text = rw (text, encoded_bytes-encode_of url_safe_no_pad b refl h.octets, eq-eqb _ _ h.whole) refl

pub rsa_member-some : (name : List ℕ) (entry : Data) (b : List ℕ) → rsa_member name entry ≡ Some b → IsRsaMember b × HasBytes entry name b
rsa_member-some name entry b h =
    let p = filtered-some _ (key_bytes name entry) b h in
    let k = key_bytes-some name entry b p.0 in
    let t = and_parts _ _ p.1 in
    (record { some = ltb-true _ _ t.0; short = leb-true _ _ t.1; octets = k.0 }, k.1)

pub rsa_member-encoded : (name : List ℕ) (entry : Data) (b : List ℕ) → IsRsaMember b → HasBytes entry name b → rsa_member name entry ≡ Some b
unfolding key_bytes
rsa_member-encoded name entry b h text = rw (text, encoded_bytes-encode_of url_safe_no_pad b refl h.octets, lt-ltb _ _ h.some, le-leb _ _ h.short) refl

-- ---- certificates and key ids

only_text-some : (items : Items) (text : List ℕ) → only_text items ≡ Some text → items ≡ item (string text) no_items
only_text-some no_items text h = cc h
only_text-some (item (string s) no_items) text h = let same : s ≡ text = cc h in ap (λ t. item (string t) no_items) same
only_text-some (item null no_items) text h = cc h
only_text-some (item (boolean b) no_items) text h = cc h
only_text-some (item (number n) no_items) text h = cc h
only_text-some (item (array ds) no_items) text h = cc h
only_text-some (item (object ms) no_items) text h = cc h
only_text-some (item value (item next more)) text h = cc h

as_array-some : (o : Option Data) (items : Items) → option_and_then as_array o ≡ Some items → o ≡ Some (array items)
as_array-some None items h = cc h
as_array-some (Some null) items h = cc h
as_array-some (Some (boolean b)) items h = cc h
as_array-some (Some (number n)) items h = cc h
as_array-some (Some (string s)) items h = cc h
as_array-some (Some (array ds)) items h = let same : ds ≡ items = cc h in ap (λ d. Some (array d)) same
as_array-some (Some (object ms)) items h = cc h

der_bytes-some : (entry : Data) (der : List ℕ) → der_bytes entry ≡ Some der → IsBytes der × HasCertificate entry der
unfolding der_bytes
der_bytes-some entry der h = go (option_and_then as_array (get (codes "x5c") entry)) refl h
  where
    at_text : (items : Items) (o : Option (List ℕ)) → option_and_then as_array (get (codes "x5c") entry) ≡ Some items → only_text items ≡ o → option_and_then (encoded_bytes standard) o ≡ Some der → IsBytes der × HasCertificate entry der
    at_text items None list texts h = cc h
    at_text items (Some text) list texts h =
        let p = encoded_bytes-some standard text der h in
        (p.0, as_array-some _ items list ∙ ap (λ i. Some (array i)) (only_text-some items text texts ∙ ap (λ t. item (string t) no_items) p.1))

    go : (o : Option Items) → option_and_then as_array (get (codes "x5c") entry) ≡ o → option_and_then (encoded_bytes standard) (option_and_then only_text o) ≡ Some der → IsBytes der × HasCertificate entry der
    go None list h = cc h
    go (Some items) list h = at_text items (only_text items) list refl h

pub certificate-some : (entry : Data) (der : List ℕ) → certificate entry ≡ Some der → IsCertificate der × HasCertificate entry der
certificate-some entry der h =
    let p = filtered-some _ (der_bytes entry) der h in
    let d = der_bytes-some entry der p.0 in
    (record { some = ltb-true _ _ p.1; octets = d.0 }, d.1)

pub certificate-encoded : (entry : Data) (der : List ℕ) → IsCertificate der → HasCertificate entry der → certificate entry ≡ Some der
unfolding der_bytes
certificate-encoded entry der h x5c = rw (x5c, encoded_bytes-encode_of standard der refl h.octets, lt-ltb _ _ h.some) refl

pub certificate-none : (entry : Data) → ¬ (HasSomeCertificate entry) → certificate entry ≡ None
certificate-none entry lacks = none_where _ (λ der is. let p = certificate-some entry der is in lacks (der, p.0, p.1))

pub key_id-some : (entry : Data) (kid : List ℕ) → key_id entry ≡ Some kid → IsKeyId kid × HasText entry (codes "kid") kid
key_id-some entry kid h =
    let p = filtered-some _ (member_text (codes "kid") entry) kid h in
    let t = and_parts _ _ p.1 in
    let u = and_parts _ _ t.0 in
    (record { some = ltb-true _ _ u.0; short = leb-true _ _ u.1; text = IsUtf8-from_is_utf8 kid t.1 }, p.0)

pub key_id-text : (entry : Data) (kid : List ℕ) → IsKeyId kid → HasText entry (codes "kid") kid → key_id entry ≡ Some kid
key_id-text entry kid h text = rw (text, lt-ltb _ _ h.some, le-leb _ _ h.short, is_utf8-from_IsUtf8 kid h.text) refl

pub key_id-none : (entry : Data) → ¬ (HasSomeKeyId entry) → key_id entry ≡ None
key_id-none entry lacks = none_where _ (λ kid is. let p = key_id-some entry kid is in lacks (kid, p.0, p.1))

-- ---- known texts

pub curve_named-some : (text : List ℕ) (c : Curve) → curve_named text ≡ Some c → text ≡ curve_text c
curve_named-some text c h = elim (cases_Bool (bytes_eq text (codes "P-256"))) [
  | inl a ↦ let same : P256 ≡ c = cc (rw a at h) in (bytes_decides _ _).0 a ∙ ap curve_text same
  | inr a ↦ elim (cases_Bool (bytes_eq text (codes "P-384"))) [
    | inl b ↦ let same : P384 ≡ c = cc (rw (a, b) at h) in (bytes_decides _ _).0 b ∙ ap curve_text same
    | inr b ↦ elim (cases_Bool (bytes_eq text (codes "P-521"))) [
      | inl d ↦ let same : P521 ≡ c = cc (rw (a, b, d) at h) in (bytes_decides _ _).0 d ∙ ap curve_text same
      | inr d ↦ cc (rw (a, b, d) at h)
    ]
  ]
]

pub curve_named-text : (curve : Curve) → curve_named (curve_text curve) ≡ Some curve
curve_named-text P256 = refl
curve_named-text P384 = refl
curve_named-text P521 = refl

pub other_curve : (text : List ℕ) → ((curve : Curve) → text ≢ curve_text curve) → curve_named text ≡ None
other_curve text h = none_where _ (λ curve is. h curve (curve_named-some text curve is))

pub no_curve : (text : List ℕ) → curve_named text ≡ None → (curve : Curve) → text ≢ curve_text curve
no_curve text h curve same = cc (sym h ∙ ap curve_named same ∙ curve_named-text curve)

key_type_named-ec : (text : List ℕ) → key_type_named text ≡ Some types.Ec → text ≡ codes "EC"
key_type_named-ec text h = elim (cases_Bool (bytes_eq text (codes "EC"))) [
  | inl a ↦ (bytes_decides _ _).0 a
  | inr a ↦ elim (cases_Bool (bytes_eq text (codes "RSA"))) [
    | inl b ↦ cc (rw (a, b) at h)
    | inr b ↦ cc (rw (a, b) at h)
  ]
]

key_type_named-rsa : (text : List ℕ) → key_type_named text ≡ Some types.Rsa → text ≡ codes "RSA"
key_type_named-rsa text h = elim (cases_Bool (bytes_eq text (codes "EC"))) [
  | inl a ↦ cc (rw a at h)
  | inr a ↦ elim (cases_Bool (bytes_eq text (codes "RSA"))) [
    | inl b ↦ (bytes_decides _ _).0 b
    | inr b ↦ cc (rw (a, b) at h)
  ]
]

key_use_named-x509 : (text : List ℕ) → key_use_named text ≡ Some uses.X509 → text ≡ codes "x509-svid"
key_use_named-x509 text h = elim (cases_Bool (bytes_eq text (codes "x509-svid"))) [
  | inl a ↦ (bytes_decides _ _).0 a
  | inr a ↦ elim (cases_Bool (bytes_eq text (codes "jwt-svid"))) [
    | inl b ↦ cc (rw (a, b) at h)
    | inr b ↦ cc (rw (a, b) at h)
  ]
]

key_use_named-jwt : (text : List ℕ) → key_use_named text ≡ Some uses.Jwt → text ≡ codes "jwt-svid"
key_use_named-jwt text h = elim (cases_Bool (bytes_eq text (codes "x509-svid"))) [
  | inl a ↦ cc (rw a at h)
  | inr a ↦ elim (cases_Bool (bytes_eq text (codes "jwt-svid"))) [
    | inl b ↦ (bytes_decides _ _).0 b
    | inr b ↦ cc (rw (a, b) at h)
  ]
]

-- the text behind what a member names
named_text : {A : Type 0} (name : List ℕ → Option A) (o : Option (List ℕ)) (x : A) (text : List ℕ) → ((t : List ℕ) → name t ≡ Some x → t ≡ text) → option_and_then name o ≡ Some x → o ≡ Some text
named_text name None x text only h = cc h
named_text name (Some t) x text only h = ap Some (only t h)

-- the text of a type and of a use
abbrev pub type_text : KeyType → List ℕ
type_text types.Ec = codes "EC"
type_text types.Rsa = codes "RSA"

abbrev pub use_text : KeyUse → List ℕ
use_text uses.X509 = codes "x509-svid"
use_text uses.Jwt = codes "jwt-svid"

pub type_of : (entry : Data) (kind : KeyType) → key_type entry ≡ Some kind → HasText entry (codes "kty") (type_text kind)
type_of entry types.Ec h = named_text key_type_named _ types.Ec (codes "EC") key_type_named-ec h
type_of entry types.Rsa h = named_text key_type_named _ types.Rsa (codes "RSA") key_type_named-rsa h

pub of_type : (entry : Data) (kind : KeyType) → HasText entry (codes "kty") (type_text kind) → key_type entry ≡ Some kind
of_type entry types.Ec h = rw h refl
of_type entry types.Rsa h = rw h refl

pub use_of : (entry : Data) (role : KeyUse) → key_use entry ≡ Some role → HasText entry (codes "use") (use_text role)
use_of entry uses.X509 h = named_text key_use_named _ uses.X509 (codes "x509-svid") key_use_named-x509 h
use_of entry uses.Jwt h = named_text key_use_named _ uses.Jwt (codes "jwt-svid") key_use_named-jwt h

pub of_use : (entry : Data) (role : KeyUse) → HasText entry (codes "use") (use_text role) → key_use entry ≡ Some role
of_use entry uses.X509 h = rw h refl
of_use entry uses.Jwt h = rw h refl

-- a type is known if and only if it is one of the two, and so is a use
pub known_type : (entry : Data) (kind : KeyType) → key_type entry ≡ Some kind → HasKnownType entry
known_type entry types.Ec h = inl (type_of entry types.Ec h)
known_type entry types.Rsa h = inr (type_of entry types.Rsa h)

pub type_known : (entry : Data) → HasKnownType entry → (kind : KeyType) × (key_type entry ≡ Some kind)
type_known entry h = elim h [ inl ec ↦ (types.Ec, of_type entry types.Ec ec) | inr rsa ↦ (types.Rsa, of_type entry types.Rsa rsa) ]

pub known_use : (entry : Data) (role : KeyUse) → key_use entry ≡ Some role → HasKnownUse entry
known_use entry uses.X509 h = inl (use_of entry uses.X509 h)
known_use entry uses.Jwt h = inr (use_of entry uses.Jwt h)

pub use_known : (entry : Data) → HasKnownUse entry → (role : KeyUse) × (key_use entry ≡ Some role)
use_known entry h = elim h [ inl x509 ↦ (uses.X509, of_use entry uses.X509 x509) | inr jwt ↦ (uses.Jwt, of_use entry uses.Jwt jwt) ]
