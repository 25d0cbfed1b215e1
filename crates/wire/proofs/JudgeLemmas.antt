-- What holds of each reason why a request is refused holds of all of them.
use Rattle.std.proofs.Common.{◌≡◌, ℕ, List, refl, ap, Option, Some, None, Result, Ok, Err}
use Rattle.wire.specs.declared.version.Version.{Version}
use Rattle.wire.specs.declared.version.Version.TheVariants.{One, Two, Three}
use Rattle.wire.specs.declared.refusal.Refusal.{Refusal}
use Rattle.wire.specs.declared.refusal.Refusal.TheVariants.{BadRequest}
use Rattle.wire.specs.RequestForm.{Request, Set, SetIf, Append, Remove, Get, Fetch, FetchUnless, Stats, Speak, HasPayload, payload_of, name_of}
use Rattle.wire.specs.PayloadReading.{read_payload}
use Rattle.wire.specs.Judge.{◌>>=◌, parse_name, parse_bundle, parse_authority, named_bundle, judged, judged_if, request_of}
use Rattle.wire.proofs.RequestPayloads.{payload_read}

-- the payload of a request is judged as this request
pub request_read : (version : Version) (r : Request) → HasPayload r → request_of version (payload_of r) ≡ judged version r
unfolding request_of
request_read version r has = ap (judged_if version) (payload_read r has)

-- if a result is a refusal, this holds of it
abbrev pub IfRefused : (Refusal → Type 0) → {A : Type 0} → Result A Refusal → Type 0
IfRefused P (Ok x) = Unit {0}
IfRefused P (Err refusal) = P refusal

module _ (P : Refusal → Type 0) where
  refused_then : {A B : Type 0} (r : Result A Refusal) (f : A → Result B Refusal) → IfRefused P r → ((x : A) → IfRefused P (f x)) → IfRefused P (r >>= f)
  refused_then (Ok x) f one next = next x
  refused_then (Err refusal) f one next = one

  module _ (bad : P BadRequest) (bundle : (bytes : List ℕ) → IfRefused P (parse_bundle bytes)) (authority : (bytes : List ℕ) → IfRefused P (parse_authority bytes)) where
    refused_named : (name text : List ℕ) → IfRefused P (parse_name name) → IfRefused P (named_bundle name text)
    unfolding named_bundle
    refused_named name text first = refused_then (parse_name name) _ first (λ domain. refused_then (parse_bundle text) _ (bundle text) (λ b. tt))

    -- of a request, if it holds of its name
    pub refused_form : (version : Version) (r : Request) → IfRefused P (parse_name (name_of r)) → IfRefused P (judged version r)
    unfolding judged
    refused_form version (Set name text) first = refused_then (named_bundle name text) _ (refused_named name text first) (λ item. tt)
    refused_form One (SetIf name expect text) first = bad
    refused_form Two (SetIf name expect text) first = refused_then (named_bundle name text) _ (refused_named name text first) (λ item. tt)
    refused_form Three (SetIf name expect text) first = refused_then (named_bundle name text) _ (refused_named name text first) (λ item. tt)
    refused_form version (Append name text) first = refused_then (parse_name name) _ first (λ domain. refused_then (parse_authority text) _ (authority text) (λ a. tt))
    refused_form version (Remove name) first = refused_then (parse_name name) _ first (λ domain. tt)
    refused_form version (Get name) first = refused_then (parse_name name) _ first (λ domain. tt)
    refused_form version Fetch first = tt
    refused_form One (FetchUnless known) first = bad
    refused_form Two (FetchUnless known) first = bad
    refused_form Three (FetchUnless known) first = tt
    refused_form One Stats first = bad
    refused_form Two Stats first = bad
    refused_form Three Stats first = tt
    refused_form version (Speak wanted) first = tt

    -- of a payload, if it holds of the name of the request that it is
    pub refused_payload : (version : Version) (payload : List ℕ) → ((r : Request) → read_payload payload ≡ Some r → IfRefused P (parse_name (name_of r))) → IfRefused P (request_of version payload)
    unfolding request_of
    refused_payload version payload first = by (read_payload payload) refl
      where
        by : (o : Option Request) → read_payload payload ≡ o → IfRefused P (judged_if version o)
        by None is = bad
        by (Some r) is = refused_form version r (first r is)
