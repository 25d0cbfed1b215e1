-- Authorities and bundles of them, as contracts see them.
use Rattle.std.specs.Prelude.{ℕ, ◌<◌, ◌≤◌, List, length, Option}
use Rattle.std.specs.Str.{IsUtf8}
use Rattle.spiffe_doc.specs.declared.key.PublicKey.{PublicKey}
use Rattle.spiffe_doc.specs.declared.key.PublicKey.TheVariants.{Ec, Rsa}
use Rattle.spiffe_doc.specs.declared.authority.Authority.{Authority}
use Rattle.spiffe_doc.specs.declared.authority.Authority.TheVariants.{X509, Jwt}
use Rattle.spiffe_doc.specs.Key.{AreBytes, IsEcKey, IsRsaKey}

abbrev pub IsPublicKey : PublicKey → Type 0
IsPublicKey (Ec key) = IsEcKey key
IsPublicKey (Rsa key) = IsRsaKey key

-- the DER bytes of a certificate
pub record IsCertificate (der : List ℕ) : Type 0 where
  pub some : 0 < length der
  pub octets : AreBytes der

-- a key id: 1 to 255 bytes of text
pub record IsKeyId (kid : List ℕ) : Type 0 where
  pub some : 0 < length kid
  pub short : length kid ≤ 255
  pub text : IsUtf8 kid

-- a valid authority
abbrev pub IsAuthority : Authority → Type 0
IsAuthority (X509 key der) = IsPublicKey key × IsCertificate der
IsAuthority (Jwt kid key) = IsKeyId kid × IsPublicKey key

-- a bundle
pub record BundleValue : Type 0 where
  pub sequence : Option ℕ
  pub refresh_hint : Option ℕ
  pub authorities : List Authority
