-- What the texts of an entry give, for private contracts.
use Rattle.spiffe_doc.specs.declared.key.PublicKey.{PublicKey}
use Rattle.spiffe_doc.specs.declared.key.PublicKey.TheVariants.{Ec, Rsa}
use Rattle.spiffe_doc.specs.declared.authority.Authority.{Authority}
use Rattle.spiffe_doc.specs.declared.authority.Authority.TheVariants.{X509, Jwt}
use Rattle.spiffe_doc.specs.declared.given.GivenKey.{GivenKey}
use Rattle.spiffe_doc.specs.declared.given.GivenKey.TheVariants as keys
use Rattle.spiffe_doc.specs.declared.given.Given.{Given}
use Rattle.spiffe_doc.specs.declared.given.Given.TheVariants as entries

-- the key of these members
abbrev pub key_given : GivenKey → PublicKey
key_given (keys.Ec curve x y) = Ec (record { curve = curve; x = x; y = y })
key_given (keys.Rsa n e) = Rsa (record { n = n; e = e })

-- the authority of these members
abbrev pub authority_given : Given → Authority
authority_given (entries.X509 key der) = X509 (key_given key) der
authority_given (entries.Jwt kid key) = Jwt kid.now (key_given key)
