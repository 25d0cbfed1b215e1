-- What a map answers and what a session answers, as replies, and the bytes in which they go out.
use Rattle.std.specs.Prelude.{◌≡◌, ℕ, ◌-◌, ◌^◌, List, [], ◌∷◌, length, get_or, map, min, Option, Some, None, Result, Ok, Err, ◌⊎◌, Bool}
use Rattle.spiffe_doc.specs.Authority.{BundleValue}
use Rattle.spiffe_doc.specs.Text.{text_of}
use Rattle.map_core.specs.Name.{Name}
use Rattle.map_core.specs.Reply.{refusal_number}
use Rattle.map_core.specs.declared.reply.Reply.{Reply as Said}
use Rattle.map_core.specs.declared.reply.Reply.TheVariants as said
use Rattle.map_core.specs.declared.reply.MapRefusal.{MapRefusal}
use Rattle.map_core.specs.declared.reply.MapRefusal.TheVariants.{Stale, NotExpected}
use Rattle.map_core.specs.declared.reply.AskError.{AskError}
use Rattle.map_core.specs.declared.reply.AskError.TheVariants as error
use Rattle.wire.specs.declared.refusal.Refusal.{Refusal}
use Rattle.wire.specs.declared.refusal.Refusal.TheVariants as refused
use Rattle.wire.specs.Refusal.{refusal_number as request_refusal_number, refusal_place}
use Rattle.wire.specs.declared.version.Version.{Version}
use Rattle.map_core.specs.Dump.{dump}
-- a domain of all bundles: its name and its canonical text
pub use Rattle.map_core.specs.Dump.{item_frame}
use Rattle.wire.specs.Frame.{frame}
use Rattle.wire.specs.declared.reply.Detail.{Detail}
use Rattle.wire.specs.declared.reply.Detail.TheVariants.{Nothing, Place, SequenceOf, Expected}
use Rattle.wire.specs.ReplyForm.{Reply, payload_of, is_error_code, Speaks, Stored, Unchanged, Removed, Appended, Found, All, Same, Counts, Bundle, Refused, Moved, Held, Worn, Memory, Shut}

-- what a refusal of a map says beside its number
abbrev pub detail_of : MapRefusal → Detail
detail_of (Stale sequence) = SequenceOf sequence
detail_of (NotExpected found) = Expected found
detail_of refusal = Nothing

abbrev pub refusal_form : MapRefusal → Reply
refusal_form refusal = Refused (refusal_number refusal) (detail_of refusal)

-- a shard or a place in 4 bytes; none needs more
abbrev pub shard_number : ℕ → ℕ
shard_number shard = min shard (2 ^ 32 - 1)

abbrev pub error_form : AskError → Reply
error_form error.Memory = Memory
error_form (error.Worn shard) = Worn (shard_number shard)
error_form (error.Moved shard first second) = Moved (shard_number shard) first second
error_form (error.Held shard revision) = Held (shard_number shard) revision
error_form error.GateShut = Shut

-- of all bundles it says how many there are
abbrev pub reply_form : Said → Reply
reply_form said.Stored = Stored
reply_form said.Unchanged = Unchanged
reply_form said.Removed = Removed
reply_form (said.Appended sequence) = Appended sequence
reply_form (said.Found bundle) = Found (text_of bundle)
reply_form (said.All items) = All (length items)
reply_form said.Same = Same
reply_form (said.Refused refusal) = refusal_form refusal

abbrev pub answer_form : Result Said AskError → Reply
answer_form (Ok reply) = reply_form reply
answer_form (Err error) = error_form error

-- all bundles follow it, each as a reply of its own
abbrev pub bundles_of : Result Said AskError → List (Name × BundleValue)
bundles_of (Ok (said.All items)) = items
bundles_of answer = []

abbrev pub bundle_form : Name × BundleValue → Reply
bundle_form item = Bundle item.0 (text_of item.1)

abbrev pub answer_forms : Result Said AskError → List Reply
answer_forms answer = answer_form answer ∷ map bundle_form (bundles_of answer)

-- ---- what a session answers to a payload that is refused

abbrev pub place_detail : Option ℕ → Detail
place_detail None = Nothing
place_detail (Some place) = Place (shard_number place)

abbrev pub request_refusal_form : Refusal → Reply
request_refusal_form refused.Memory = Memory
request_refusal_form refusal = Refused (request_refusal_number refusal) (place_detail (refusal_place refusal))

-- ---- as bytes

-- the frame of a reply
abbrev pub reply_frame : Reply → List ℕ
reply_frame reply = frame (payload_of reply)

-- one frame, and for all bundles one more for each, which are their dump
abbrev pub reply_frames : Said → List ℕ
reply_frames (said.All items) = dump items
reply_frames reply = reply_frame (reply_form reply)

abbrev pub answer_frames : Result Said AskError → List ℕ
answer_frames (Ok reply) = reply_frames reply
answer_frames (Err error) = reply_frame (error_form error)

-- the reply that says that memory ran out
abbrev pub memory_frame : List ℕ
memory_frame = reply_frame Memory

-- the reply to a payload that is refused
abbrev pub refusal_frame : Refusal → List ℕ
refusal_frame refusal = reply_frame (request_refusal_form refusal)

-- the reply to a payload that asks for counts
abbrev pub counts_frame : List ℕ → List ℕ
counts_frame counts = reply_frame (Counts counts)

-- the reply to a payload that sets the version
abbrev pub version_frame : Version → List ℕ
version_frame version = reply_frame (Speaks version)

-- only all bundles take memory to code
abbrev pub TakesMemory : Result Said AskError → Type 0
TakesMemory (Ok (said.All items)) = Unit {0}
TakesMemory answer = ⊥

-- An answer goes out coded; or as out of memory, if coding it takes memory that is refused.
abbrev pub GoesOut : Result Said AskError → List ℕ → Type 0
GoesOut answer text = (text ≡ answer_frames answer) ⊎ (TakesMemory answer × (text ≡ memory_frame))

-- the code of a reply follows its length
abbrev pub code_of : List ℕ → ℕ
code_of text = get_or text 4 0

-- whether a reply says so: that memory ran out, that a shard is worn, moved or held, or that a gate is shut
abbrev pub is_error_reply : List ℕ → Bool
is_error_reply text = is_error_code (code_of text)
