-- A canonical text in two pieces, for private contracts: up to the last entry, and what follows.
use Rattle.std.specs.Prelude.{◌≡◌, ℕ, List, [], ◌∷◌, ◌++◌, codes, Bool, true, false, Option, Some, None, decimal}
use Rattle.std.specs.List.{list_all}
use Rattle.json.specs.Run.{is_plain}
use Rattle.serde_json.specs.Data.{Data, string, array, object, no_items, item, no_members, member}
use Rattle.serde_json.specs.Written.{comma_if}
use Rattle.spiffe_doc.specs.declared.key.Curve.{Curve}
use Rattle.spiffe_doc.specs.Key.{curve_text}
use Rattle.spiffe_doc.specs.declared.authority.Authority.{Authority}
use Rattle.spiffe_doc.specs.Text.{entry_text}

-- no byte of the text is escaped in a string of JSON
abbrev pub NeedsNoEscape : List ℕ → Type 0
NeedsNoEscape text = list_all is_plain text ≡ true

-- an authority as a JWK, by the texts of its members
abbrev pub x509_point_tree : Curve → List ℕ → List ℕ → List ℕ → Data
x509_point_tree curve x y x5c = object (member (codes "crv") (string (curve_text curve))
    (member (codes "kty") (string (codes "EC")) (member (codes "use") (string (codes "x509-svid"))
    (member (codes "x") (string x) (member (codes "x5c") (array (item (string x5c) no_items)) (member (codes "y") (string y) no_members))))))

abbrev pub x509_rsa_tree : List ℕ → List ℕ → List ℕ → Data
x509_rsa_tree n e x5c = object (member (codes "e") (string e) (member (codes "kty") (string (codes "RSA")) (member (codes "n") (string n)
    (member (codes "use") (string (codes "x509-svid")) (member (codes "x5c") (array (item (string x5c) no_items)) no_members)))))

abbrev pub jwt_point_tree : List ℕ → Curve → List ℕ → List ℕ → Data
jwt_point_tree kid curve x y = object (member (codes "crv") (string (curve_text curve)) (member (codes "kid") (string kid)
    (member (codes "kty") (string (codes "EC")) (member (codes "use") (string (codes "jwt-svid"))
    (member (codes "x") (string x) (member (codes "y") (string y) no_members))))))

abbrev pub jwt_rsa_tree : List ℕ → List ℕ → List ℕ → Data
jwt_rsa_tree kid n e = object (member (codes "e") (string e) (member (codes "kid") (string kid) (member (codes "kty") (string (codes "RSA"))
    (member (codes "n") (string n) (member (codes "use") (string (codes "jwt-svid")) no_members)))))

-- their texts, a comma between each two, and one before if something stands there
abbrev pub entry_texts : Bool → List Authority → List ℕ
entry_texts later [] = []
entry_texts later (authority ∷ more) = comma_if later ++ (entry_text authority ++ entry_texts true more)

-- the text of a bundle of these authorities, up to the last of them
unfoldable pub front_text : List Authority → List ℕ
front_text authorities = codes "{\"keys\":[" ++ entry_texts false authorities

-- a member of a number behind others, if there is one
abbrev pub number_text : List ℕ → Option ℕ → List ℕ
number_text label None = []
number_text label (Some n) = label ++ decimal n

-- the rest of the text of a bundle
unfoldable pub rest_text : Option ℕ → Option ℕ → List ℕ
rest_text hint sequence =
    codes "]" ++ (number_text (codes ",\"spiffe_refresh_hint\":") hint ++ (number_text (codes ",\"spiffe_sequence\":") sequence ++ codes "}"))
