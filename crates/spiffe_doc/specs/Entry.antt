-- What becomes of an entry of a document (RFC 7517 section 4, RFC 7518 section 6, RFC 4648 sections 4 and 5). No decoder
-- stands here: texts are compared with encodings.
use Rattle.std.specs.Prelude.{◌≡◌, ◌≢◌, ◌⊎◌, ℕ, List, codes, IsSome, Option, Some, None, option_and_then, Result, Ok, Err}
use Rattle.serde_json.specs.Data.{Data}
use Rattle.serde_json.specs.Find.{get, as_str, as_object}
use Rattle.base64.specs.Engines.{url_safe_no_pad}
use Rattle.base64.specs.GeneralPurpose.{encode_of}
use Rattle.spiffe_doc.specs.declared.key.Curve.{Curve}
use Rattle.spiffe_doc.specs.declared.key.PublicKey.{PublicKey}
use Rattle.spiffe_doc.specs.declared.key.PublicKey.TheVariants.{Ec, Rsa}
use Rattle.spiffe_doc.specs.declared.authority.Authority.{Authority}
use Rattle.spiffe_doc.specs.declared.authority.Authority.TheVariants.{X509, Jwt}
use Rattle.spiffe_doc.specs.declared.error.DocError.{DocError}
use Rattle.spiffe_doc.specs.declared.error.DocError.TheVariants.{BadEntry, BadKey, BadX5c, BadKid}
use Rattle.spiffe_doc.specs.Key.{curve_text}
use Rattle.spiffe_doc.specs.Authority.{IsPublicKey, IsCertificate, IsKeyId, IsAuthority}
use Rattle.spiffe_doc.specs.Text.{x5c_list}

-- the text of a member, if it is one
abbrev pub member_text : List ℕ → Data → Option (List ℕ)
member_text name entry = option_and_then as_str (get name entry)

abbrev pub HasText : Data → List ℕ → List ℕ → Type 0
HasText entry name text = member_text name entry ≡ Some text

-- the member's text is the encoding of these bytes, unpadded base64url
abbrev pub HasBytes : Data → List ℕ → List ℕ → Type 0
HasBytes entry name bytes = HasText entry name (encode_of url_safe_no_pad bytes)

-- an EC entry over this curve
abbrev pub HasCurve : Data → Curve → Type 0
HasCurve entry curve = HasText entry (codes "kty") (codes "EC") × HasText entry (codes "crv") (curve_text curve)

abbrev pub HasKey : Data → PublicKey → Type 0
HasKey entry (Ec key) = HasCurve entry key.curve × HasBytes entry (codes "x") key.x × HasBytes entry (codes "y") key.y
HasKey entry (Rsa key) = HasText entry (codes "kty") (codes "RSA") × HasBytes entry (codes "n") key.n × HasBytes entry (codes "e") key.e

-- a list of one text, which is the encoding of the bytes of a certificate, padded base64
abbrev pub HasCertificate : Data → List ℕ → Type 0
HasCertificate entry der = get (codes "x5c") entry ≡ Some (x5c_list der)

abbrev pub HasMembers : Data → Authority → Type 0
HasMembers entry (X509 key der) = HasText entry (codes "use") (codes "x509-svid") × HasKey entry key × HasCertificate entry der
HasMembers entry (Jwt kid key) = HasText entry (codes "use") (codes "jwt-svid") × HasKey entry key × HasText entry (codes "kid") kid

-- the entry gives this valid authority
abbrev pub GivesAuthority : Data → Authority → Type 0
GivesAuthority entry authority = IsAuthority authority × HasMembers entry authority

-- ---- ignored

abbrev pub IsObject : Data → Type 0
IsObject entry = IsSome (as_object entry)

abbrev pub HasKnownType : Data → Type 0
HasKnownType entry = HasText entry (codes "kty") (codes "EC") ⊎ HasText entry (codes "kty") (codes "RSA")

abbrev pub HasKnownUse : Data → Type 0
HasKnownUse entry = HasText entry (codes "use") (codes "x509-svid") ⊎ HasText entry (codes "use") (codes "jwt-svid")

-- an EC entry whose curve is a text that names none of the three
abbrev pub HasOtherCurve : Data → Type 0
HasOtherCurve entry =
    HasText entry (codes "kty") (codes "EC") × ((text : List ℕ) × HasText entry (codes "crv") text × ((curve : Curve) → text ≢ curve_text curve))

-- an object whose type or use isn't a known text, or an EC one whose curve is an unknown text
abbrev pub IsIgnored : Data → Type 0
IsIgnored entry = IsObject entry × ((¬ (HasKnownType entry)) ⊎ ((¬ (HasKnownUse entry)) ⊎ HasOtherCurve entry))

-- ---- malformed

-- an object that is not ignored
pub record IsKnown (entry : Data) : Type 0 where
  pub object : IsObject entry
  pub has_type : HasKnownType entry
  pub has_use : HasKnownUse entry
  pub no_other_curve : ¬ (HasOtherCurve entry)

abbrev pub HasSomeKey : Data → Type 0
HasSomeKey entry = (key : PublicKey) × IsPublicKey key × HasKey entry key

abbrev pub HasSomeCertificate : Data → Type 0
HasSomeCertificate entry = (der : List ℕ) × IsCertificate der × HasCertificate entry der

abbrev pub HasSomeKeyId : Data → Type 0
HasSomeKeyId entry = (kid : List ℕ) × IsKeyId kid × HasText entry (codes "kid") kid

-- the entry at this place is malformed, and this is its first fault
abbrev pub IsMalformed : ℕ → Data → DocError → Type 0
IsMalformed place entry (BadEntry at) = (at ≡ place) × ¬ (IsObject entry)
IsMalformed place entry (BadKey at) = (at ≡ place) × IsKnown entry × ¬ (HasSomeKey entry)
IsMalformed place entry (BadX5c at) =
    (at ≡ place) × IsKnown entry × HasSomeKey entry × HasText entry (codes "use") (codes "x509-svid") × ¬ (HasSomeCertificate entry)
IsMalformed place entry (BadKid at) =
    (at ≡ place) × IsKnown entry × HasSomeKey entry × HasText entry (codes "use") (codes "jwt-svid") × ¬ (HasSomeKeyId entry)
IsMalformed place entry other = ⊥

-- what becomes of the entry at this place: its authority, nothing if it is ignored, or its first fault
abbrev pub IsVerdict : ℕ → Data → Result (Option Authority) DocError → Type 0
IsVerdict place entry (Ok (Some authority)) = GivesAuthority entry authority
IsVerdict place entry (Ok None) = IsIgnored entry
IsVerdict place entry (Err fault) = IsMalformed place entry fault

-- it is one, and only one
abbrev pub HasOneVerdict : ℕ → Data → Type 0
HasOneVerdict place entry =
    (outcome : Result (Option Authority) DocError) × IsVerdict place entry outcome
    × ((other : Result (Option Authority) DocError) → IsVerdict place entry other → other ≡ outcome)
