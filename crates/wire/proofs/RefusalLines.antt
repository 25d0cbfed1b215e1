-- The reply to a payload that is refused has a line.
use Rattle.std.proofs.Common.{◌≡◌, ℕ, ◌<◌, ◌^◌, arith, Bool, true, false, cond, List, length, get_or, Option, Some, None, Result, Ok, Err, refl, subst}
use Rattle.std.specs.Prelude.{option_map, nat_lt, ◌==◌, position, not}
use Rattle.std.proofs.lemmas.Bool.Decides.{nat_tests}
use Rattle.spiffe_doc.specs.Answer.{unless}
use Rattle.spiffe_doc.specs.Authority.{BundleValue}
use Rattle.spiffe_doc.specs.declared.authority.Authority.{Authority}
use Rattle.spiffe_doc.specs.declared.name.NameError.{NameError}
use Rattle.spiffe_doc.specs.declared.name.NameError.TheVariants as name
use Rattle.spiffe_doc.specs.declared.error.DocError.{DocError}
use Rattle.spiffe_doc.specs.declared.error.DocError.TheVariants as doc
use Rattle.spiffe_doc.specs.Name.{is_name_byte, trust_domain}
use Rattle.spiffe_doc.specs.Document.{document, entry}
use Rattle.map_core.specs.Name.{Name}
use Rattle.wire.specs.declared.version.Version.{Version}
use Rattle.wire.specs.declared.version.Version.TheVariants.{One, Two, Three}
use Rattle.wire.specs.declared.refusal.Refusal.{Refusal}
use Rattle.wire.specs.declared.refusal.Refusal.TheVariants.{BadRequest, BadName, BadDocument, PassedOver, Memory}
use Rattle.wire.specs.RequestForm.{Request, Set, SetIf, Append, Remove, Get, Fetch, FetchUnless, Stats, Speak, HasPayload, name_of}
use Rattle.wire.specs.Judge.{name_or_refusal, parse_name, bundle_or_refusal, parse_bundle, authority_or_refusal, parse_authority, request_of}
use Rattle.wire.proofs.JudgeLemmas.{IfRefused, refused_payload}
use Rattle.wire.proofs.RequestPayloads.{payload_found}
use Rattle.wire.specs.declared.reply.Detail.TheVariants.{Nothing, Place}
use Rattle.wire.specs.declared.reply.Kind.TheVariants.{Bare, OfPlace}
use Rattle.wire.specs.ReplyForm.{kind_of, line_of, payload_of, Refused, Speaks, Memory as NoMemory}
use Rattle.wire.specs.Answers.{shard_number, request_refusal_form}
use Rattle.wire.specs.Decoding.{IsReplyLine}
use Rattle.wire.proofs.AnswerLines.{refused_is_lined, lined_is_told}

-- a name of at most 255 bytes is not too long, and out of memory is told as such
abbrev IsTold : Refusal → Type 0
IsTold (BadName name.TooLong) = ⊥
IsTold (BadName name.Memory) = ⊥
IsTold (BadDocument doc.Memory) = ⊥
IsTold refusal = Unit {0}

abbrev IsToldIfRefused : {A : Type 0} → Result A Refusal → Type 0
IsToldIfRefused r = IfRefused IsTold r

-- ---- names

no_empty : (let r : Result (List ℕ) NameError = Err name.Empty in r ≡ Err name.TooLong) → ⊥
no_empty same = cc

no_char : (at : ℕ) → (let r : Result (List ℕ) NameError = Err (name.BadChar at) in r ≡ Err name.TooLong) → ⊥
no_char at same = cc

no_name : (text : List ℕ) → (let r : Result (List ℕ) NameError = Ok text in r ≡ Err name.TooLong) → ⊥
no_name text same = cc

not_long : (text : List ℕ) (b c : Bool) (o : Option ℕ) → nat_lt 255 (length text) ≡ c → length text < 256
    → unless (cond b (Some name.Empty) (cond c (Some name.TooLong) (option_map name.BadChar o))) text ≡ Err name.TooLong → ⊥
not_long text true c o long short same = no_empty same
not_long text false true o long short same = let over : 255 < length text = grind (arith, nat_tests, long) in omega (arith, over, short)
not_long text false false None long short same = no_name text same
not_long text false false (Some at) long short same = no_char at same

told_name : (bytes : List ℕ) → length bytes < 256 → IsToldIfRefused (parse_name bytes)
unfolding parse_name
told_name bytes short = of_read (trust_domain bytes) refl
  where
    of_read : (t : Result Name NameError) → trust_domain bytes ≡ t → IsToldIfRefused (name_or_refusal t)
    of_read (Ok n) is = tt
    of_read (Err name.Empty) is = tt
    of_read (Err name.TooLong) is = not_long bytes (length bytes == 0) (nat_lt 255 (length bytes)) (position (λ x. not (is_name_byte x)) bytes) refl short is
    of_read (Err name.Memory) is = tt
    of_read (Err (name.BadChar at)) is = tt

-- ---- documents and entries

told_bundle : (bytes : List ℕ) → IsToldIfRefused (parse_bundle bytes)
unfolding parse_bundle
told_bundle bytes = of_read (document bytes)
  where
    of_read : (d : Result BundleValue DocError) → IsToldIfRefused (bundle_or_refusal d)
    of_read (Ok b) = tt
    of_read (Err doc.TooLong) = tt
    of_read (Err doc.NotJson) = tt
    of_read (Err doc.NotObject) = tt
    of_read (Err doc.NoKeys) = tt
    of_read (Err doc.BadSequence) = tt
    of_read (Err doc.BadHint) = tt
    of_read (Err (doc.BadEntry place)) = tt
    of_read (Err (doc.BadKey place)) = tt
    of_read (Err (doc.BadX5c place)) = tt
    of_read (Err (doc.BadKid place)) = tt
    of_read (Err (doc.KidTwice place)) = tt
    of_read (Err doc.TooMany) = tt
    of_read (Err doc.Memory) = tt

told_authority : (bytes : List ℕ) → IsToldIfRefused (parse_authority bytes)
unfolding parse_authority
told_authority bytes = of_read (entry bytes)
  where
    of_read : (d : Result (Option Authority) DocError) → IsToldIfRefused (authority_or_refusal d)
    of_read (Ok (Some a)) = tt
    of_read (Ok None) = tt
    of_read (Err doc.TooLong) = tt
    of_read (Err doc.NotJson) = tt
    of_read (Err doc.NotObject) = tt
    of_read (Err doc.NoKeys) = tt
    of_read (Err doc.BadSequence) = tt
    of_read (Err doc.BadHint) = tt
    of_read (Err (doc.BadEntry place)) = tt
    of_read (Err (doc.BadKey place)) = tt
    of_read (Err (doc.BadX5c place)) = tt
    of_read (Err (doc.BadKid place)) = tt
    of_read (Err (doc.KidTwice place)) = tt
    of_read (Err doc.TooMany) = tt
    of_read (Err doc.Memory) = tt

-- ---- requests

-- the name of a payload's request has its length in a byte
short_name : (r : Request) → HasPayload r → length (name_of r) < 256
short_name (Set name text) has = has
short_name (SetIf name expect text) has = has.0
short_name (Append name text) has = has
short_name (Remove name) has = has
short_name (Get name) has = has
short_name Fetch has = omega arith
short_name (FetchUnless known) has = omega arith
short_name Stats has = omega arith
short_name (Speak version) has = omega arith

told_request : (version : Version) (payload : List ℕ) → ((i : ℕ) → get_or payload i 0 < 256) → IsToldIfRefused (request_of version payload)
told_request version payload bytes =
    refused_payload IsTold tt told_bundle told_authority version payload (λ r is. told_name (name_of r) (short_name r (payload_found payload r bytes is).1))

-- ---- refusals

place_fits : (place : ℕ) → shard_number place < 2 ^ 32
place_fits place = omega arith

-- the reply to the refusal has a line
abbrev HasReply : Refusal → Type 0
HasReply refusal = IsReplyLine (payload_of (request_refusal_form refusal)) (line_of (request_refusal_form refusal))

bare_told : (number : ℕ) → number < 2 ^ 64 → kind_of number ≡ Some Bare → IsReplyLine (payload_of (Refused number Nothing)) (line_of (Refused number Nothing))
bare_told number low kind = lined_is_told (Refused number Nothing) (refused_is_lined number Nothing low (kind, tt))

place_told : (number place : ℕ) → number < 2 ^ 64 → kind_of number ≡ Some OfPlace
    → IsReplyLine (payload_of (Refused number (Place (shard_number place)))) (line_of (Refused number (Place (shard_number place))))
place_told number place low kind = lined_is_told (Refused number (Place (shard_number place))) (refused_is_lined number (Place (shard_number place)) low (kind, place_fits place))

has_reply : (refusal : Refusal) → IsTold refusal → HasReply refusal
unfolding kind_of
has_reply BadRequest told = bare_told 51 (omega arith) refl
has_reply (BadName name.Empty) told = bare_told 1 (omega arith) refl
has_reply (BadName name.TooLong) told = absurd told
has_reply (BadName name.Memory) told = absurd told
has_reply (BadName (name.BadChar at)) told = place_told 3 at (omega arith) refl
has_reply (BadDocument doc.TooLong) told = bare_told 10 (omega arith) refl
has_reply (BadDocument doc.NotJson) told = bare_told 11 (omega arith) refl
has_reply (BadDocument doc.NotObject) told = bare_told 12 (omega arith) refl
has_reply (BadDocument doc.NoKeys) told = bare_told 13 (omega arith) refl
has_reply (BadDocument doc.BadSequence) told = bare_told 14 (omega arith) refl
has_reply (BadDocument doc.BadHint) told = bare_told 15 (omega arith) refl
has_reply (BadDocument (doc.BadEntry place)) told = place_told 16 place (omega arith) refl
has_reply (BadDocument (doc.BadKey place)) told = place_told 17 place (omega arith) refl
has_reply (BadDocument (doc.BadX5c place)) told = place_told 18 place (omega arith) refl
has_reply (BadDocument (doc.BadKid place)) told = place_told 19 place (omega arith) refl
has_reply (BadDocument (doc.KidTwice place)) told = place_told 20 place (omega arith) refl
has_reply (BadDocument doc.TooMany) told = bare_told 21 (omega arith) refl
has_reply (BadDocument doc.Memory) told = absurd told
has_reply PassedOver told = bare_told 23 (omega arith) refl
has_reply Memory told = lined_is_told NoMemory (tt, refl)

pub refusals_have_lines : (version : Version) (payload : List ℕ) (refusal : Refusal) → ((i : ℕ) → get_or payload i 0 < 256) → request_of version payload ≡ Err refusal → HasReply refusal
refusals_have_lines version payload refusal bytes is = has_reply refusal (subst IsToldIfRefused is (told_request version payload bytes))

-- ---- versions

pub versions_have_lines : (version : Version) → IsReplyLine (payload_of (Speaks version)) (line_of (Speaks version))
versions_have_lines One = lined_is_told (Speaks One) (tt, refl)
versions_have_lines Two = lined_is_told (Speaks Two) (tt, refl)
versions_have_lines Three = lined_is_told (Speaks Three) (tt, refl)
