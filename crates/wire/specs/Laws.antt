-- Which replies have a line, and that frames have one.
use Rattle.std.specs.Prelude.{◌≡◌, ℕ, ◌<◌, ◌^◌, List, length, slice_index, Result, Ok, Err}
use Rattle.std.specs.List.{AllByRecursion, flat_map}
use Rattle.spiffe_doc.specs.Authority.{BundleValue}
use Rattle.spiffe_doc.specs.Bundle.{IsBundle}
use Rattle.spiffe_doc.specs.Name.{IsName}
use Rattle.spiffe_doc.specs.Text.{text_of}
use Rattle.map_core.specs.Name.{Name}
use Rattle.map_core.specs.declared.reply.Reply.{Reply as Said}
use Rattle.map_core.specs.declared.reply.Reply.TheVariants as said
use Rattle.map_core.specs.declared.reply.MapRefusal.TheVariants.{Stale, NotExpected}
use Rattle.map_core.specs.declared.reply.AskError.{AskError}
use Rattle.map_core.specs.declared.reply.AskError.TheVariants as error
use Rattle.wire.specs.Frame.{frame}
use Rattle.wire.specs.declared.version.Version.{Version}
use Rattle.wire.specs.declared.refusal.Refusal.{Refusal}
use Rattle.wire.specs.Judge.{request_of}
use Rattle.wire.specs.RequestForm as requests
use Rattle.wire.specs.RequestForm.{IsExpect}
use Rattle.wire.specs.ReplyForm.{Reply, Found, Bundle, Speaks, SequenceFits, IsLined, line_of, payload_of}
use Rattle.wire.specs.Answers.{answer_frames, answer_forms, request_refusal_form}
use Rattle.wire.specs.Decoding.{IsLineOf, IsReplyLine}
use Rattle.wire.specs.Encoding.{Gives, Becomes}

-- A bundle that is found has a line, since no canonical text has a line feed.
abbrev pub FoundHasLine : Type 0
FoundHasLine = (bundle : BundleValue) → IsBundle bundle → IsLined (Found (text_of bundle))

-- So has each of all bundles, under its name.
abbrev pub BundleHasLine : Type 0
BundleHasLine = (name : List ℕ) (bundle : BundleValue) → IsName name → IsBundle bundle → IsLined (Bundle name (text_of bundle))

-- a name, and a bundle under it
abbrev pub IsItem : Name × BundleValue → Type 0
IsItem item = IsName item.0 × IsBundle item.1

-- what a map can answer: its numbers have 8 bytes, and its names and its bundles are valid
abbrev pub IsAnswer : Result Said AskError → Type 0
IsAnswer (Ok (said.Appended sequence)) = SequenceFits sequence
IsAnswer (Ok (said.Found bundle)) = IsBundle bundle
IsAnswer (Ok (said.All items)) = (length items < 2 ^ 64) × AllByRecursion IsItem items
IsAnswer (Ok (said.Refused (Stale sequence))) = sequence < 2 ^ 64
IsAnswer (Ok (said.Refused (NotExpected found))) = IsExpect found
IsAnswer (Err (error.Moved shard first second)) = (first < 2 ^ 64) × (second < 2 ^ 64)
IsAnswer (Err (error.Held shard revision)) = revision < 2 ^ 64
IsAnswer answer = Unit {0}

-- these bytes are the frames of replies that have lines
abbrev pub HaveLines : List ℕ → Type 0
HaveLines bytes = (replies : List Reply) × (bytes ≡ flat_map (λ reply. frame (payload_of reply)) replies) × AllByRecursion (λ reply. IsReplyLine (payload_of reply) (line_of reply)) replies

-- Whatever a map answers, each of its replies has a payload, and this payload has a line.
abbrev pub AnswersHaveLines : Type 0
AnswersHaveLines = (answer : Result Said AskError) → IsAnswer answer → AllByRecursion (λ reply. IsReplyLine (payload_of reply) (line_of reply)) (answer_forms answer)

-- A session answers with the frames of these payloads.
abbrev pub AnswersAreReplies : Type 0
AnswersAreReplies = (answer : Result Said AskError) → answer_frames answer ≡ flat_map (λ reply. frame (payload_of reply)) (answer_forms answer)

-- The reply to a payload that is refused has a line: a name in it has at most 255 bytes, so it is not refused as too long.
abbrev pub RefusalsHaveLines : Type 0
RefusalsHaveLines = (version : Version) (payload : List ℕ) (refusal : Refusal) → ((i : ℕ) → slice_index payload i < 256) → request_of version payload ≡ Err refusal
    → IsReplyLine (payload_of (request_refusal_form refusal)) (line_of (request_refusal_form refusal))

-- So has the reply that tells the version.
abbrev pub VersionsHaveLines : Type 0
VersionsHaveLines = (version : Version) → IsReplyLine (payload_of (Speaks version)) (line_of (Speaks version))

-- A frame has one line at most, be it a request's or a reply's.
abbrev pub FrameHasOneLine : Type 0
FrameHasOneLine = (payload one other : List ℕ) → IsLineOf payload one → IsLineOf payload other → one ≡ other

-- no text is given for any name
abbrev pub nothing_given : Gives
nothing_given name found = ⊥

-- The line of a request becomes its frame, and the frame that line again and no other, whatever text it has that names no other.
abbrev pub DecodesWhatWasEncoded : Type 0
DecodesWhatWasEncoded = (request : requests.Request) → requests.HasLine request → requests.IsFramed request → requests.IsLined request
    → Becomes nothing_given (requests.line_of request, frame (requests.payload_of request))
    × IsLineOf (requests.payload_of request) (requests.line_of request) × ((line : List ℕ) → IsLineOf (requests.payload_of request) line → line ≡ requests.line_of request)
