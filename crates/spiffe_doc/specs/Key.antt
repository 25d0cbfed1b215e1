-- Public keys (RFC 7518, section 6), as contracts see them.
use Rattle.std.specs.Prelude.{◌≡◌, ℕ, ◌<◌, ◌≤◌, List, length, slice_index, codes}
use Rattle.spiffe_doc.specs.declared.key.Curve.{Curve}
use Rattle.spiffe_doc.specs.declared.key.Curve.TheVariants.{P256, P384, P521}

abbrev pub curve_text : Curve → List ℕ
curve_text P256 = codes "P-256"
curve_text P384 = codes "P-384"
curve_text P521 = codes "P-521"

-- the bytes of a coordinate
abbrev pub coordinate_len : Curve → ℕ
coordinate_len P256 = 32
coordinate_len P384 = 48
coordinate_len P521 = 66

-- a key over a curve: the coordinates of a point
pub record EcKeyValue : Type 0 where
  pub curve : Curve
  pub x : List ℕ
  pub y : List ℕ

-- an RSA key: the modulus and the exponent
pub record RsaKeyValue : Type 0 where
  pub n : List ℕ
  pub e : List ℕ

abbrev pub AreBytes : List ℕ → Type 0
AreBytes bytes = (i : ℕ) → slice_index bytes i < 256

pub record IsCoordinate (curve : Curve) (bytes : List ℕ) : Type 0 where
  pub whole : length bytes ≡ coordinate_len curve
  pub octets : AreBytes bytes

-- a member of an RSA key has 1 to 1,024 bytes
pub record IsRsaMember (bytes : List ℕ) : Type 0 where
  pub some : 0 < length bytes
  pub short : length bytes ≤ 1024
  pub octets : AreBytes bytes

pub record IsEcKey (key : EcKeyValue) : Type 0 where
  pub x : IsCoordinate key.curve key.x
  pub y : IsCoordinate key.curve key.y

pub record IsRsaKey (key : RsaKeyValue) : Type 0 where
  pub n : IsRsaMember key.n
  pub e : IsRsaMember key.e
