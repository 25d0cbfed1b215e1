-- A place that a refusal names fits in 4 bytes.
use Rattle.std.proofs.Common.{◌≡◌, ℕ, ◌<◌, ◌≤◌, List, length, arith, refl, ap, subst, Result, Ok, Err, Some, None, Bool, true, false, cond}
use Rattle.std.specs.Prelude.{Option, option_map, nat_lt, ◌==◌, ◌-◌, ◌^◌, min, position, not, IfSome}
use Rattle.std.specs.Int.{w32, to_be_bytes}
use Rattle.std.proofs.lemmas.Bool.Decides.{nat_tests}
use Rattle.std.proofs.lemmas.List.Quantifiers.{position-Some}
use Rattle.spiffe_doc.specs.Answer.{unless}
use Rattle.spiffe_doc.specs.Authority.{BundleValue}
use Rattle.spiffe_doc.specs.declared.authority.Authority.{Authority}
use Rattle.spiffe_doc.specs.declared.name.NameError.{NameError}
use Rattle.spiffe_doc.specs.declared.name.NameError.TheVariants as name
use Rattle.spiffe_doc.specs.declared.error.DocError.{DocError}
use Rattle.spiffe_doc.specs.declared.error.DocError.TheVariants as doc
use Rattle.spiffe_doc.specs.Name.{is_name_byte, trust_domain}
use Rattle.spiffe_doc.specs.Document.{document, entry}
use Rattle.spiffe_doc.proofs.DocumentLaws.{document-place, entry-place}
use Rattle.map_core.specs.Name.{Name}
use Rattle.wire.specs.declared.version.Version.{Version}
use Rattle.wire.specs.declared.refusal.Refusal.{Refusal}
use Rattle.wire.specs.Refusal.{refusal_place}
use Rattle.wire.specs.Fields.{place_bytes}
use Rattle.wire.specs.RequestForm.{name_of}
use Rattle.wire.specs.Judge.{name_or_refusal, parse_name, bundle_or_refusal, parse_bundle, authority_or_refusal, parse_authority, request_of}
use Rattle.wire.proofs.JudgeLemmas.{IfRefused, refused_payload}

-- a place that it names is small
abbrev IsSmall : Refusal → Type 0
IsSmall refusal = IfSome (refusal_place refusal) (λ place. place < 1048576)

abbrev HasSmallPlace : {A : Type 0} → Result A Refusal → Type 0
HasSmallPlace r = IfRefused IsSmall r

-- ---- names

no_empty : (at : ℕ) → (let r : Result (List ℕ) NameError = Err name.Empty in r ≡ Err (name.BadChar at)) → ⊥
no_empty at same = cc

no_long : (at : ℕ) → (let r : Result (List ℕ) NameError = Err name.TooLong in r ≡ Err (name.BadChar at)) → ⊥
no_long at same = cc

no_name : (text : List ℕ) (at : ℕ) → (let r : Result (List ℕ) NameError = Ok text in r ≡ Err (name.BadChar at)) → ⊥
no_name text at same = cc

same_char : (a b : ℕ) → (let r : Result (List ℕ) NameError = Err (name.BadChar a) in r ≡ Err (name.BadChar b)) → a ≡ b
same_char a b same = cc

char_place : (text : List ℕ) (at : ℕ) (b c : Bool) (o : Option ℕ) → nat_lt 255 (length text) ≡ c → position (λ x. not (is_name_byte x)) text ≡ o
    → unless (cond b (Some name.Empty) (cond c (Some name.TooLong) (option_map name.BadChar o))) text ≡ Err (name.BadChar at) → at < 1048576
char_place text at true c o long is same = absurd (no_empty at same)
char_place text at false true o long is same = absurd (no_long at same)
char_place text at false false None long is same = absurd (no_name text at same)
char_place text at false false (Some i) long is same =
    let short : length text ≤ 255 = grind (arith, nat_tests, long) in
    let inside = (position-Some (λ x. not (is_name_byte x)) text i 0 is).0 in
    omega (arith, same_char i at same, inside, short)

small_name : (bytes : List ℕ) → HasSmallPlace (parse_name bytes)
unfolding parse_name
small_name bytes = of_read (trust_domain bytes) refl
  where
    of_read : (t : Result Name NameError) → trust_domain bytes ≡ t → HasSmallPlace (name_or_refusal t)
    of_read (Ok n) is = tt
    of_read (Err name.Empty) is = tt
    of_read (Err name.TooLong) is = tt
    of_read (Err name.Memory) is = tt
    of_read (Err (name.BadChar at)) is = char_place bytes at (length bytes == 0) (nat_lt 255 (length bytes)) (position (λ x. not (is_name_byte x)) bytes) refl refl is

-- ---- documents and entries

small_bundle : (bytes : List ℕ) → HasSmallPlace (parse_bundle bytes)
unfolding parse_bundle
small_bundle bytes = of_read (document bytes) refl
  where
    of_read : (d : Result BundleValue DocError) → document bytes ≡ d → HasSmallPlace (bundle_or_refusal d)
    of_read (Ok b) is = tt
    of_read (Err doc.TooLong) is = tt
    of_read (Err doc.NotJson) is = tt
    of_read (Err doc.NotObject) is = tt
    of_read (Err doc.NoKeys) is = tt
    of_read (Err doc.BadSequence) is = tt
    of_read (Err doc.BadHint) is = tt
    of_read (Err (doc.BadEntry place)) is = document-place bytes (doc.BadEntry place) is
    of_read (Err (doc.BadKey place)) is = document-place bytes (doc.BadKey place) is
    of_read (Err (doc.BadX5c place)) is = document-place bytes (doc.BadX5c place) is
    of_read (Err (doc.BadKid place)) is = document-place bytes (doc.BadKid place) is
    of_read (Err (doc.KidTwice place)) is = document-place bytes (doc.KidTwice place) is
    of_read (Err doc.TooMany) is = tt
    of_read (Err doc.Memory) is = tt

zero_small : (place : ℕ) → place ≡ 0 → place < 1048576
zero_small place none = omega (arith, none)

small_authority : (bytes : List ℕ) → HasSmallPlace (parse_authority bytes)
unfolding parse_authority
small_authority bytes = of_read (entry bytes) refl
  where
    of_read : (d : Result (Option Authority) DocError) → entry bytes ≡ d → HasSmallPlace (authority_or_refusal d)
    of_read (Ok (Some a)) is = tt
    of_read (Ok None) is = tt
    of_read (Err doc.TooLong) is = tt
    of_read (Err doc.NotJson) is = tt
    of_read (Err doc.NotObject) is = tt
    of_read (Err doc.NoKeys) is = tt
    of_read (Err doc.BadSequence) is = tt
    of_read (Err doc.BadHint) is = tt
    of_read (Err (doc.BadEntry place)) is = zero_small place (entry-place bytes (doc.BadEntry place) is)
    of_read (Err (doc.BadKey place)) is = zero_small place (entry-place bytes (doc.BadKey place) is)
    of_read (Err (doc.BadX5c place)) is = zero_small place (entry-place bytes (doc.BadX5c place) is)
    of_read (Err (doc.BadKid place)) is = zero_small place (entry-place bytes (doc.BadKid place) is)
    of_read (Err (doc.KidTwice place)) is = zero_small place (entry-place bytes (doc.KidTwice place) is)
    of_read (Err doc.TooMany) is = tt
    of_read (Err doc.Memory) is = tt

-- ---- requests

small_request : (version : Version) (payload : List ℕ) → HasSmallPlace (request_of version payload)
small_request version payload = refused_payload IsSmall tt small_bundle small_authority version payload (λ r is. small_name (name_of r))

exact : (place : ℕ) → place < 1048576 → place_bytes place ≡ to_be_bytes w32 place
unfolding place_bytes
exact place small =
    let same : min place (2 ^ 32 - 1) ≡ place = omega (arith, small) in
    ap (to_be_bytes w32) same

pub place_coded : (version : Version) (payload : List ℕ) (refusal : Refusal) (place : ℕ) → request_of version payload ≡ Err refusal
    → refusal_place refusal ≡ Some place → (place < 1048576) × (place_bytes place ≡ to_be_bytes w32 place)
place_coded version payload refusal place is name_or_refusal =
    let small : IfSome (refusal_place refusal) (λ at. at < 1048576) = subst HasSmallPlace is (small_request version payload) in
    let below : place < 1048576 = subst (λ (o : Option ℕ). IfSome o (λ at. at < 1048576)) name_or_refusal small in
    (below, exact place below)
