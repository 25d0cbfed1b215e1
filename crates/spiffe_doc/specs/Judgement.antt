-- How an entry is judged, from left to right. That this is what becomes of it (`Entry`) is a law of the crate.
use Rattle.std.specs.Prelude.{ℕ, ◌==◌, ◌&&◌, List, length, codes, bytes_eq, Bool, nat_lt, nat_le, is_some, if◌then◌else◌, Option, Some, None, option_map, option_and_then, Result, Ok, Err}
use Rattle.std.specs.List.{list_all}
use Rattle.std.specs.Option.{ok_or}
use Rattle.std.specs.Str.{is_utf8}
use Rattle.serde_json.specs.Data.{Data, Items, no_items, item}
use Rattle.serde_json.specs.Find.{get, as_str, as_array, as_object}
use Rattle.base64.specs.declared.engine.general_purpose.GeneralPurpose.{GeneralPurpose}
use Rattle.base64.specs.Engines.{standard, url_safe_no_pad}
use Rattle.base64.specs.GeneralPurpose.{encode_of, decoded_of}
use Rattle.spiffe_doc.specs.declared.key.Curve.{Curve}
use Rattle.spiffe_doc.specs.declared.key.Curve.TheVariants.{P256, P384, P521}
use Rattle.spiffe_doc.specs.declared.key.PublicKey.{PublicKey}
use Rattle.spiffe_doc.specs.declared.key.PublicKey.TheVariants.{Ec, Rsa}
use Rattle.spiffe_doc.specs.declared.authority.Authority.{Authority}
use Rattle.spiffe_doc.specs.declared.authority.Authority.TheVariants.{X509, Jwt}
use Rattle.spiffe_doc.specs.declared.entry.KeyType.{KeyType}
use Rattle.spiffe_doc.specs.declared.entry.KeyType.TheVariants as types
use Rattle.spiffe_doc.specs.declared.entry.KeyUse.{KeyUse}
use Rattle.spiffe_doc.specs.declared.entry.KeyUse.TheVariants as uses
use Rattle.spiffe_doc.specs.declared.error.DocError.{DocError}
use Rattle.spiffe_doc.specs.declared.error.DocError.TheVariants.{BadEntry, BadKey, BadX5c, BadKid}
use Rattle.spiffe_doc.specs.Answer.{◌>>=◌}
use Rattle.spiffe_doc.specs.Key.{coordinate_len}
use Rattle.spiffe_doc.specs.Entry.{member_text}

-- ---- members

-- the value, if it passes
abbrev pub if_passes : {A : Type 0} → (A → Bool) → Option A → Option A
if_passes test value = option_and_then (λ x. if test x then Some x else None) value

-- the text is the encoding of these, each of which is a byte
abbrev pub is_encoding : GeneralPurpose → List ℕ → List ℕ → Bool
is_encoding engine text bytes = list_all (λ byte. nat_lt byte 256) bytes && bytes_eq text (encode_of engine bytes)

-- The bytes whose encoding the text is. The decoder proposes them, the encoding decides.
unfoldable pub encoded_bytes : GeneralPurpose → List ℕ → Option (List ℕ)
encoded_bytes engine text = if_passes (is_encoding engine text) (decoded_of engine text)

abbrev pub key_type_named : List ℕ → Option KeyType
key_type_named text =
    if bytes_eq text (codes "EC") then Some types.Ec
    else if bytes_eq text (codes "RSA") then Some types.Rsa
    else None

abbrev pub key_use_named : List ℕ → Option KeyUse
key_use_named text =
    if bytes_eq text (codes "x509-svid") then Some uses.X509
    else if bytes_eq text (codes "jwt-svid") then Some uses.Jwt
    else None

abbrev pub curve_named : List ℕ → Option Curve
curve_named text =
    if bytes_eq text (codes "P-256") then Some P256
    else if bytes_eq text (codes "P-384") then Some P384
    else if bytes_eq text (codes "P-521") then Some P521
    else None

abbrev pub key_type : Data → Option KeyType
key_type entry = option_and_then key_type_named (member_text (codes "kty") entry)

abbrev pub key_use : Data → Option KeyUse
key_use entry = option_and_then key_use_named (member_text (codes "use") entry)

-- the bytes of a key's member, unpadded base64url
unfoldable pub key_bytes : List ℕ → Data → Option (List ℕ)
key_bytes name entry = option_and_then (encoded_bytes url_safe_no_pad) (member_text name entry)

abbrev pub coordinate : Curve → List ℕ → Data → Option (List ℕ)
coordinate curve name entry = if_passes (λ bytes. length bytes == coordinate_len curve) (key_bytes name entry)

abbrev pub rsa_member : List ℕ → Data → Option (List ℕ)
rsa_member name entry = if_passes (λ bytes. nat_lt 0 (length bytes) && nat_le (length bytes) 1024) (key_bytes name entry)

-- the one text of a list of one
abbrev pub only_text : Items → Option (List ℕ)
only_text no_items = None
only_text (item value no_items) = as_str value
only_text (item value (item next more)) = None

-- the bytes of a certificate, padded base64
unfoldable pub der_bytes : Data → Option (List ℕ)
der_bytes entry =
    option_and_then (encoded_bytes standard)
    (option_and_then only_text (option_and_then as_array (get (codes "x5c") entry)))

abbrev pub certificate : Data → Option (List ℕ)
certificate entry = if_passes (λ bytes. nat_lt 0 (length bytes)) (der_bytes entry)

abbrev pub key_id : Data → Option (List ℕ)
key_id entry = if_passes (λ kid. nat_lt 0 (length kid) && nat_le (length kid) 255 && is_utf8 kid) (member_text (codes "kid") entry)

-- ---- the entry

unfoldable pub point_key : ℕ → Curve → Data → Result PublicKey DocError
point_key place curve entry = do
  x ← ok_or (coordinate curve (codes "x") entry) (BadKey place)
  y ← ok_or (coordinate curve (codes "y") entry) (BadKey place)
  Ok (Ec (record { curve = curve; x = x; y = y }))

unfoldable pub rsa_key : ℕ → Data → Result PublicKey DocError
rsa_key place entry = do
  n ← ok_or (rsa_member (codes "n") entry) (BadKey place)
  e ← ok_or (rsa_member (codes "e") entry) (BadKey place)
  Ok (Rsa (record { n = n; e = e }))

-- the key, or none if the curve is unknown
abbrev pub key_on : ℕ → Data → Option Curve → Result (Option PublicKey) DocError
key_on place entry None = Ok None
key_on place entry (Some curve) = point_key place curve entry >>= (λ key. Ok (Some key))

unfoldable pub key_of : ℕ → KeyType → Data → Result (Option PublicKey) DocError
key_of place types.Ec entry = ok_or (member_text (codes "crv") entry) (BadKey place) >>= (λ text. key_on place entry (curve_named text))
key_of place types.Rsa entry = rsa_key place entry >>= (λ key. Ok (Some key))

unfoldable pub authority_for : ℕ → KeyUse → PublicKey → Data → Result Authority DocError
authority_for place uses.X509 key entry = ok_or (option_map (λ der. X509 key der) (certificate entry)) (BadX5c place)
authority_for place uses.Jwt key entry = ok_or (option_map (λ kid. Jwt kid key) (key_id entry)) (BadKid place)

abbrev pub with_key : ℕ → KeyUse → Data → Option PublicKey → Result (Option Authority) DocError
with_key place role entry None = Ok None
with_key place role entry (Some key) = authority_for place role key entry >>= (λ authority. Ok (Some authority))

abbrev pub known_entry : ℕ → Data → Option KeyType → Option KeyUse → Result (Option Authority) DocError
known_entry place entry None role = Ok None
known_entry place entry (Some kind) None = Ok None
known_entry place entry (Some kind) (Some role) = key_of place kind entry >>= with_key place role entry

-- the entry at this place of a document: its authority, none if it is ignored, or its first fault
unfoldable pub judge : ℕ → Data → Result (Option Authority) DocError
judge place entry =
    if is_some (as_object entry) then known_entry place entry (key_type entry) (key_use entry)
    else Err (BadEntry place)
