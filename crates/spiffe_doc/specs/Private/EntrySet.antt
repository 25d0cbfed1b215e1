-- The authorities that the first entries of a document gave, for private contracts.
use Rattle.std.specs.Prelude.{◌≡◌, ◌<◌, ℕ, List, [], ◌∷◌, ◌++◌, length, get_or, bytes_eq, Bool, true, false, nat_le, if◌then◌else◌, Option, Some, None, MatchOption, Result, Ok, Err}
use Rattle.std.specs.List.{list_any}
use Rattle.std.specs.Ordering.{nat_cmp}
use Rattle.std.specs.Cmp.Lexicographic.{slice_cmp}
use Rattle.std.specs.BTreeMap as map
use Rattle.std.specs.BTreeMap.{BTreeMap}
use Rattle.std.specs.BTreeSet as tree
use Rattle.std.specs.BTreeSet.{BTreeSet}
use Rattle.spiffe_doc.specs.declared.authority.Authority.{Authority}
use Rattle.spiffe_doc.specs.declared.authority.Authority.TheVariants.{X509, Jwt}
use Rattle.spiffe_doc.specs.declared.error.DocError.{DocError}
use Rattle.spiffe_doc.specs.declared.error.DocError.TheVariants.{KidTwice, TooMany}
use Rattle.spiffe_doc.specs.Bundle.{is_among, is_kid_taken}
use Rattle.base64.specs.Engines.{standard}
use Rattle.base64.specs.GeneralPurpose.{encode_of}

-- the list with one more authority, as an entry at this place gives it
abbrev pub admission : ℕ → List Authority → Authority → Result (List Authority) DocError
admission place before authority =
    if is_kid_taken before authority then Err (KidTwice place)
    else if is_among before authority then Ok before
    else if nat_le 1024 (length before) then Err TooMany
    else Ok (before ++ authority ∷ [])

-- the list after one more entry of this outcome
abbrev pub take_in : ℕ → List Authority → Result (Option Authority) DocError → Result (List Authority) DocError
take_in place before (Err e) = Err e
take_in place before (Ok None) = Ok before
take_in place before (Ok (Some authority)) = admission place before authority

-- the list, with the authority at its end if it is new
abbrev pub with_new : Bool → List Authority → Authority → List Authority
with_new new before authority = if new then before ++ authority ∷ [] else before

-- ---- by what an equal authority and an equal key id are found

abbrev pub has : BTreeSet (List ℕ) → List ℕ → Bool
has set bytes = tree.contains (slice_cmp nat_cmp) set bytes

abbrev pub place_of_kid : BTreeMap (List ℕ) ℕ → List ℕ → Option ℕ
place_of_kid kids kid = map.get (slice_cmp nat_cmp) kids kid

-- whether this is the base64 text of the certificate of an authority
abbrev pub has_certificate : List ℕ → Authority → Bool
has_certificate text (X509 key der) = bytes_eq (encode_of standard der) text
has_certificate text (Jwt kid key) = false

-- whether this is the key id of an authority
abbrev pub has_kid : List ℕ → Authority → Bool
has_kid kid (X509 key der) = false
has_kid kid (Jwt own key) = bytes_eq own kid

-- an authority at this place has the key id
abbrev pub IsKidAt : List ℕ → List Authority → ℕ → Type 0
IsKidAt kid authorities at = (at < length authorities) × ((other : Authority) → has_kid kid (get_or authorities at other) ≡ true)

-- they have the certificates of these X.509 authorities, and a place for each key id of these JWT authorities, and no others
pub record AreIndexed (certificates : BTreeSet (List ℕ)) (kids : BTreeMap (List ℕ) ℕ) (authorities : List Authority) : Type 0 where
  pub certificates_are : (text : List ℕ) → has certificates text ≡ list_any (has_certificate text) authorities
  pub kids_are : (kid : List ℕ) → MatchOption (place_of_kid kids kid) (list_any (has_kid kid) authorities ≡ false) (IsKidAt kid authorities)
