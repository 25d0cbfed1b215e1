-- The bytes of a request.
use Rattle.std.specs.Prelude.{◌≡◌, ℕ, List, ◌∷◌, ◌++◌, length, nat_le, Bool, true, false, [], Option, Some, None}
use Rattle.spiffe_doc.specs.Text.{entry_text, text_of}
use Rattle.spiffe_doc.specs.Name.{IsName}
use Rattle.spiffe_doc.specs.Authority.{IsAuthority}
use Rattle.spiffe_doc.specs.Bundle.{IsBundle}
use Rattle.map_core.specs.declared.op.Op.{Op}
use Rattle.map_core.specs.declared.op.Op.TheVariants.{Set, SetIf, Append, Remove, Get, FetchAll, FetchUnless}
use Rattle.client.specs.declared.request.RequestError.{RequestError}
use Rattle.client.specs.declared.request.RequestError.TheVariants.{Memory, TooLong, WriteFault}
use Rattle.wire.specs.declared.version.Version.{Version}
use Rattle.wire.specs.declared.version.Version.TheVariants.{Two, Three}
use Rattle.wire.specs.Fields.{version_number}
use Rattle.wire.specs.Frame.{frame}
use Rattle.wire.specs.RequestForm as form
use Rattle.wire.specs.RequestForm.{Request, IsDigest, IsExpect, payload_of}

-- the request that says an operation
abbrev pub request_form : Op → Request
request_form (Set d b) = form.Set d (text_of b)
request_form (SetIf d expect b) = form.SetIf d expect (text_of b)
request_form (Append d a) = form.Append d (entry_text a)
request_form (Remove d) = form.Remove d
request_form (Get d) = form.Get d
request_form FetchAll = form.Fetch
request_form (FetchUnless known) = form.FetchUnless known

abbrev pub request_payload : Op → List ℕ
request_payload op = payload_of (request_form op)

-- the version of the session that an operation needs, if it is not the first
abbrev pub version_for : Op → Option Version
version_for (SetIf d expect b) = Some Two
version_for (FetchUnless known) = Some Three
version_for op = None

abbrev pub least_of : Option Version → ℕ
least_of None = 1
least_of (Some version) = version_number version

-- the first version in which it can be asked
abbrev pub least_version : Op → ℕ
least_version op = least_of (version_for op)

-- the payload of the request that sets a version
abbrev pub speak_payload : Version → List ℕ
speak_payload version = payload_of (form.Speak version)

abbrev pub speak_bytes : Option Version → List ℕ
speak_bytes None = []
speak_bytes (Some version) = frame (speak_payload version)

-- it comes before the operation's own request
abbrev pub request_preface : Op → List ℕ
request_preface op = speak_bytes (version_for op)

-- what is written of an operation
abbrev pub request_bytes : Op → List ℕ
request_bytes op = request_preface op ++ frame (request_payload op)

-- the payloads of an operation's requests, one after the other
abbrev pub payloads_behind : Option Version → List ℕ → List (List ℕ)
payloads_behind None payload = payload ∷ []
payloads_behind (Some version) payload = speak_payload version ∷ payload ∷ []

abbrev pub request_payloads : Op → List (List ℕ)
request_payloads op = payloads_behind (version_for op) (request_payload op)

-- Whether the request of an operation is written: each but an append of an authority whose text is over the limit of
-- documents.
abbrev pub is_written : Op → Bool
is_written (Append d a) = nat_le (length (entry_text a)) 1048576
is_written op = true

abbrev pub is_append : Op → Bool
is_append (Append d a) = true
is_append op = false

-- why nothing of a request is written: it is too long, or there was no memory for the text that it appends
abbrev pub IsUnwritable : Op → RequestError → Type 0
IsUnwritable op TooLong = is_written op ≡ false
IsUnwritable op Memory = is_append op ≡ true
IsUnwritable op WriteFault = ⊥

-- an operation on a trust domain name, whose numbers and whose bundle are valid
abbrev pub IsValidOp : Op → Type 0
IsValidOp (Set d b) = IsName d × IsBundle b
IsValidOp (SetIf d expect b) = IsName d × IsExpect expect × IsBundle b
IsValidOp (Append d a) = IsName d × IsAuthority a
IsValidOp (Remove d) = IsName d
IsValidOp (Get d) = IsName d
IsValidOp FetchAll = Unit {0}
IsValidOp (FetchUnless known) = IsDigest known
