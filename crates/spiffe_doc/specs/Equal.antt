-- When keys, authorities and bundles are equal: all their parts are, in order.
use Rattle.std.specs.Prelude.{◌==◌, ◌&&◌, bytes_eq, nat_eq, Bool, false}
use Rattle.std.specs.Option.{option_eq}
use Rattle.std.specs.Cmp.Lexicographic.{pointwise}
use Rattle.spiffe_doc.specs.declared.key.PublicKey.{PublicKey}
use Rattle.spiffe_doc.specs.declared.key.PublicKey.TheVariants.{Ec, Rsa}
use Rattle.spiffe_doc.specs.declared.authority.Authority.{Authority}
use Rattle.spiffe_doc.specs.declared.authority.Authority.TheVariants.{X509, Jwt}
use Rattle.spiffe_doc.specs.Key.{EcKeyValue, RsaKeyValue, coordinate_len}
use Rattle.spiffe_doc.specs.Authority.{BundleValue}

abbrev pub ec_eq : EcKeyValue → EcKeyValue → Bool
ec_eq a b = coordinate_len a.curve == coordinate_len b.curve && bytes_eq a.x b.x && bytes_eq a.y b.y

abbrev pub rsa_eq : RsaKeyValue → RsaKeyValue → Bool
rsa_eq a b = bytes_eq a.n b.n && bytes_eq a.e b.e

abbrev pub key_eq : PublicKey → PublicKey → Bool
key_eq (Ec a) (Ec b) = ec_eq a b
key_eq (Ec a) (Rsa b) = false
key_eq (Rsa a) (Ec b) = false
key_eq (Rsa a) (Rsa b) = rsa_eq a b

abbrev pub authority_eq : Authority → Authority → Bool
authority_eq (X509 key der) (X509 other_key other_der) = key_eq key other_key && bytes_eq der other_der
authority_eq (X509 key der) (Jwt other_kid other_key) = false
authority_eq (Jwt kid key) (X509 other_key other_der) = false
authority_eq (Jwt kid key) (Jwt other_kid other_key) = bytes_eq kid other_kid && key_eq key other_key

abbrev pub bundle_eq : BundleValue → BundleValue → Bool
bundle_eq a b =
    option_eq nat_eq a.sequence b.sequence && option_eq nat_eq a.refresh_hint b.refresh_hint && pointwise authority_eq a.authorities b.authorities
