-- Which bundles are valid.
use Rattle.std.specs.Prelude.{◌≡◌, ◌<◌, ◌≤◌, ◌^◌, ◌&&◌, List, length, bytes_eq, Bool, true, false, not, IfSome}
use Rattle.std.specs.List.{list_any, AllPairs, AllByRecursion}
use Rattle.spiffe_doc.specs.declared.authority.Authority.{Authority}
use Rattle.spiffe_doc.specs.declared.authority.Authority.TheVariants.{X509, Jwt}
use Rattle.spiffe_doc.specs.Authority.{IsAuthority, BundleValue}
use Rattle.spiffe_doc.specs.Equal.{authority_eq}
use Rattle.spiffe_doc.specs.Text.{text_of}

-- it signs X.509-SVIDs; otherwise it signs JWT-SVIDs
abbrev pub is_x509 : Authority → Bool
is_x509 (X509 key der) = true
is_x509 (Jwt kid key) = false

-- both are of jwt-svids, under one key id
abbrev pub same_kid : Authority → Authority → Bool
same_kid (Jwt kid key) (Jwt other other_key) = bytes_eq kid other
same_kid a b = false

-- whether the authority is among these
abbrev pub is_among : List Authority → Authority → Bool
is_among before authority = list_any (λ other. authority_eq other authority) before

-- whether one of these has its key id and is another
abbrev pub is_kid_taken : List Authority → Authority → Bool
is_kid_taken before authority = list_any (λ other. same_kid other authority && not (authority_eq other authority)) before

-- neither equal nor under one key id
pub record AreApart (a b : Authority) : Type 0 where
  pub differ : authority_eq a b ≡ false
  pub kids_differ : same_kid a b ≡ false

-- the authorities of a valid bundle
pub record AreAuthorities (authorities : List Authority) : Type 0 where
  pub valid : AllByRecursion IsAuthority authorities
  pub apart : AllPairs AreApart authorities
  pub few : length authorities ≤ 1024

-- a valid bundle
pub record IsBundle (bundle : BundleValue) : Type 0 where
  pub sequence_fits : IfSome bundle.sequence (λ n. n < 2 ^ 64)
  pub hint_fits : IfSome bundle.refresh_hint (λ n. n < 2 ^ 64)
  pub authorities : AreAuthorities bundle.authorities
  pub short : length (text_of bundle) ≤ 1048576
