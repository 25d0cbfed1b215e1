-- The X.509 authorities of a bundle as PEM (RFC 7468, sections 2, 3 and 5.1).
use Rattle.std.specs.Prelude.{ℕ, zero, suc, ◌+◌, ◌/◌, List, [], ◌∷◌, ◌++◌, length, take, drop, codes}
use Rattle.std.specs.List.{flat_map}
use Rattle.base64.specs.Engines.{standard}
use Rattle.base64.specs.GeneralPurpose.{encode_of}
use Rattle.spiffe_doc.specs.declared.authority.Authority.{Authority}
use Rattle.spiffe_doc.specs.declared.authority.Authority.TheVariants.{X509, Jwt}
use Rattle.spiffe_doc.specs.Authority.{BundleValue}

-- a text with a line feed
abbrev pub line : List ℕ → List ℕ
line text = text ++ 10 ∷ []

-- the base64 of bytes, with padding (RFC 4648, section 4)
abbrev pub base64_of : List ℕ → List ℕ
base64_of bytes = encode_of standard bytes

-- a text cut into so many pieces of 64 characters
unfoldable pub pieces : ℕ → List ℕ → List (List ℕ)
pieces zero text = []
pieces (suc count) text = take 64 text ∷ pieces count (drop 64 text)

-- a text cut into pieces of 64 characters, of which only the last may have fewer (RFC 7468, section 2)
unfoldable pub cut : List ℕ → List (List ℕ)
cut text = pieces ((length text + 63) / 64) text

-- a certificate: its base64 in lines of 64 characters, between a line that begins it and one that ends it (section 5.1)
unfoldable pub pem_of_certificate : List ℕ → List ℕ
pem_of_certificate der =
    line (codes "-----BEGIN CERTIFICATE-----") ++ (flat_map line (cut (base64_of der)) ++ line (codes "-----END CERTIFICATE-----"))

-- an X.509 authority is told by its certificate, and a JWT authority is not told
abbrev pub pem_of_authority : Authority → List ℕ
pem_of_authority (X509 key der) = pem_of_certificate der
pem_of_authority (Jwt kid key) = []

-- the certificates of a bundle, in order
abbrev pub pem_of : BundleValue → List ℕ
pem_of bundle = flat_map pem_of_authority bundle.authorities
