-- What a payload asks, or why it is refused: it is no request, or the first reason in this order.
use Rattle.std.specs.Prelude.{ℕ, List, Option, Some, None, Result, Ok, Err}
use Rattle.spiffe_doc.specs.Authority.{BundleValue}
use Rattle.spiffe_doc.specs.Name.{trust_domain}
use Rattle.spiffe_doc.specs.Document.{document, entry}
use Rattle.spiffe_doc.specs.declared.name.NameError.{NameError}
use Rattle.spiffe_doc.specs.declared.error.DocError.{DocError}
use Rattle.spiffe_doc.specs.declared.authority.Authority.{Authority}
use Rattle.map_core.specs.Name.{Name}
use Rattle.map_core.specs.declared.op.Op.TheVariants as op
use Rattle.wire.specs.declared.version.Version.{Version}
use Rattle.wire.specs.declared.version.Version.TheVariants.{One, Three}
use Rattle.wire.specs.declared.judge.Judged.{Judged}
use Rattle.wire.specs.declared.judge.Judged.TheVariants.{Ask, SetVersion, TellCounts}
use Rattle.wire.specs.declared.refusal.Refusal.{Refusal}
use Rattle.wire.specs.declared.refusal.Refusal.TheVariants.{BadRequest, PassedOver}
use Rattle.wire.specs.Refusal.{name_refusal, document_refusal}
use Rattle.wire.specs.RequestForm.{Request, Set, SetIf, Append, Remove, Get, Fetch, FetchUnless, Stats, Speak}
use Rattle.wire.specs.PayloadReading.{read_payload}

infixl 10 ◌>>=◌
abbrev pub ◌>>=◌ : {A B : Type 0} → Result A Refusal → (A → Result B Refusal) → Result B Refusal
(Ok x) >>= f = f x
(Err refusal) >>= f = Err refusal

abbrev pub name_or_refusal : Result Name NameError → Result Name Refusal
name_or_refusal (Ok name) = Ok name
name_or_refusal (Err fault) = Err (name_refusal fault)

-- the trust domain that the bytes name
unfoldable pub parse_name : List ℕ → Result Name Refusal
parse_name bytes = name_or_refusal (trust_domain bytes)

abbrev pub bundle_or_refusal : Result BundleValue DocError → Result BundleValue Refusal
bundle_or_refusal (Ok bundle) = Ok bundle
bundle_or_refusal (Err fault) = Err (document_refusal fault)

-- the bundle that the bytes are a document of
unfoldable pub parse_bundle : List ℕ → Result BundleValue Refusal
parse_bundle bytes = bundle_or_refusal (document bytes)

abbrev pub authority_or_refusal : Result (Option Authority) DocError → Result Authority Refusal
authority_or_refusal (Ok (Some authority)) = Ok authority
authority_or_refusal (Ok None) = Err PassedOver
authority_or_refusal (Err fault) = Err (document_refusal fault)

-- the authority that the bytes are a JWK of
unfoldable pub parse_authority : List ℕ → Result Authority Refusal
parse_authority bytes = authority_or_refusal (entry bytes)

-- a name, and a document of its bundle
unfoldable pub named_bundle : List ℕ → List ℕ → Result (Name × BundleValue) Refusal
named_bundle name text = do
  domain ← parse_name name
  bundle ← parse_bundle text
  Ok (domain, bundle)

-- What a request asks in a session of this version. A conditional set is of version 2; a conditional fetch and counts are of version 3.
unfoldable pub judged : Version → Request → Result Judged Refusal
judged version (Set name text) = do
  item ← named_bundle name text
  Ok (Ask (op.Set item.0 item.1))
judged One (SetIf name expect text) = Err BadRequest
judged version (SetIf name expect text) = do
  item ← named_bundle name text
  Ok (Ask (op.SetIf item.0 expect item.1))
judged version (Append name text) = do
  domain ← parse_name name
  authority ← parse_authority text
  Ok (Ask (op.Append domain authority))
judged version (Remove name) = do
  domain ← parse_name name
  Ok (Ask (op.Remove domain))
judged version (Get name) = do
  domain ← parse_name name
  Ok (Ask (op.Get domain))
judged version Fetch = Ok (Ask op.FetchAll)
judged Three (FetchUnless known) = Ok (Ask (op.FetchUnless known))
judged version (FetchUnless known) = Err BadRequest
judged Three Stats = Ok TellCounts
judged version Stats = Err BadRequest
judged version (Speak wanted) = Ok (SetVersion wanted)

abbrev pub judged_if : Version → Option Request → Result Judged Refusal
judged_if version None = Err BadRequest
judged_if version (Some request) = judged version request

-- the request that a payload is in a session of this version, or why it is refused
unfoldable pub request_of : Version → List ℕ → Result Judged Refusal
request_of version payload = judged_if version (read_payload payload)
