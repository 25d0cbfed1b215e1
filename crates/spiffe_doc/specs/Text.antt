-- The canonical text of a bundle (RFC 7517, sections 4 and 5; SPIFFE Trust Domain and Bundle, section 4).
use Rattle.std.specs.Prelude.{ℕ, List, map, codes, Option, Some, None}
use Rattle.serde_json.specs.Data.{Data, number, string, array, object, unsigned, Items, no_items, item, Members, no_members, member}
use Rattle.serde_json.specs.View.{items_of}
use Rattle.serde_json.specs.Written.{compact_text}
use Rattle.base64.specs.Engines.{standard, url_safe_no_pad}
use Rattle.base64.specs.GeneralPurpose.{encode_of}
use Rattle.spiffe_doc.specs.declared.key.PublicKey.TheVariants.{Ec, Rsa}
use Rattle.spiffe_doc.specs.declared.authority.Authority.{Authority}
use Rattle.spiffe_doc.specs.declared.authority.Authority.TheVariants.{X509, Jwt}
use Rattle.spiffe_doc.specs.Key.{curve_text}
use Rattle.spiffe_doc.specs.Authority.{BundleValue}

-- the bytes of a key's member as unpadded base64url, and of a certificate as a list of one text of padded base64
abbrev pub key_text : List ℕ → Data
key_text bytes = string (encode_of url_safe_no_pad bytes)

abbrev pub x5c_list : List ℕ → Data
x5c_list der = array (item (string (encode_of standard der)) no_items)

-- an authority as a JWK, its members in byte order of their names
abbrev pub entry_tree : Authority → Data
entry_tree (X509 (Ec key) der) = object (member (codes "crv") (string (curve_text key.curve))
    (member (codes "kty") (string (codes "EC")) (member (codes "use") (string (codes "x509-svid"))
    (member (codes "x") (key_text key.x) (member (codes "x5c") (x5c_list der)
    (member (codes "y") (key_text key.y) no_members))))))
entry_tree (X509 (Rsa key) der) = object (member (codes "e") (key_text key.e)
    (member (codes "kty") (string (codes "RSA")) (member (codes "n") (key_text key.n)
    (member (codes "use") (string (codes "x509-svid")) (member (codes "x5c") (x5c_list der) no_members)))))
entry_tree (Jwt kid (Ec key)) = object (member (codes "crv") (string (curve_text key.curve))
    (member (codes "kid") (string kid) (member (codes "kty") (string (codes "EC"))
    (member (codes "use") (string (codes "jwt-svid")) (member (codes "x") (key_text key.x)
    (member (codes "y") (key_text key.y) no_members))))))
entry_tree (Jwt kid (Rsa key)) = object (member (codes "e") (key_text key.e)
    (member (codes "kid") (string kid) (member (codes "kty") (string (codes "RSA"))
    (member (codes "n") (key_text key.n) (member (codes "use") (string (codes "jwt-svid")) no_members)))))

-- the canonical text of an authority by itself: that tree's JSON, with no space
unfoldable pub entry_text : Authority → List ℕ
entry_text authority = compact_text (entry_tree authority)

abbrev pub entry_trees : List Authority → Items
entry_trees authorities = items_of (map entry_tree authorities)

-- a number, if there is one, before more members
abbrev pub number_member : List ℕ → Option ℕ → Members → Members
number_member name None more = more
number_member name (Some n) more = member name (number (unsigned n)) more

-- a bundle as a JWK set, its members in byte order of their names
abbrev pub document_tree : BundleValue → Data
document_tree bundle = object (member (codes "keys") (array (entry_trees bundle.authorities))
    (number_member (codes "spiffe_refresh_hint") bundle.refresh_hint
    (number_member (codes "spiffe_sequence") bundle.sequence no_members)))

-- the canonical text: that tree's JSON, with no space
unfoldable pub text_of : BundleValue → List ℕ
text_of bundle = compact_text (document_tree bundle)
