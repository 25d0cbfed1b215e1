-- How a client takes the first reply to a request.
use Rattle.std.specs.Prelude.{◌≡◌, ℕ, ◌<◌, ◌^◌, List, [], ◌∷◌, ◌++◌, length, bytes_eq, ◌==◌, if◌then◌else◌, true, Option, Some, None, option_map, Result, Ok, Err}
use Rattle.std.specs.Int.{w64, to_be_bytes}
use Rattle.spiffe_doc.specs.Authority.{BundleValue}
use Rattle.spiffe_doc.specs.Text.{text_of}
use Rattle.spiffe_doc.specs.Document.{document}
use Rattle.spiffe_doc.specs.declared.error.DocError.{DocError}
use Rattle.map_core.specs.declared.op.Op.{Op}
use Rattle.map_core.specs.declared.reply.Reply.TheVariants as map
use Rattle.map_core.specs.declared.reply.MapRefusal.{MapRefusal}
use Rattle.map_core.specs.declared.reply.MapRefusal.TheVariants.{NoDomain, Stale, KidTaken, TooMany, TooLong, SequenceFull, NotExpected}
use Rattle.map_core.specs.declared.reply.AskError.{AskError}
use Rattle.map_core.specs.declared.reply.AskError.TheVariants as error
use Rattle.frame_front.specs.Dump.{Domains}
use Rattle.wire.specs.Frame.{frame}
use Rattle.wire.specs.Answers.{answer_frames, answer_form, bundles_of}
use Rattle.wire.specs.declared.reply.Detail.{Detail}
use Rattle.wire.specs.declared.reply.Detail.TheVariants.{Nothing, Place, SequenceOf, Expected}
use Rattle.wire.specs.ReplyForm as form
use Rattle.client.specs.Answer.{Answer, MayAnswer, IsValidAnswer, is_code_for}
use Rattle.client.specs.declared.answer.First.{First}
use Rattle.client.specs.declared.answer.First.TheVariants as first

-- the refusal of this number
unfoldable pub refusal_of : ℕ → Detail → Option MapRefusal
refusal_of number Nothing =
    if number == 30 then Some NoDomain
    else if number == 32 then Some KidTaken
    else if number == 33 then Some TooMany
    else if number == 34 then Some TooLong
    else if number == 35 then Some SequenceFull
    else None
refusal_of number (SequenceOf sequence) = if number == 31 then Some (Stale sequence) else None
refusal_of number (Expected found) = if number == 36 then Some (NotExpected found) else None
refusal_of number (Place place) = None

-- the error of whoever was asked
unfoldable pub error_of : form.Reply → Option AskError
error_of form.Memory = Some error.Memory
error_of (form.Worn shard) = Some (error.Worn shard)
error_of (form.Moved shard first second) = Some (error.Moved shard first second)
error_of (form.Held shard revision) = Some (error.Held shard revision)
error_of form.Shut = Some error.GateShut
error_of reply = None

-- a document that is the canonical text of its bundle
abbrev pub if_canonical : List ℕ → Result BundleValue DocError → Option BundleValue
if_canonical bytes (Ok bundle) = if bytes_eq (text_of bundle) bytes then Some bundle else None
if_canonical bytes (Err fault) = None

unfoldable pub found_of : List ℕ → Option BundleValue
found_of bytes = if_canonical bytes (document bytes)

-- what a reply says, if it may be the first
unfoldable pub first_of : form.Reply → Option First
first_of form.Stored = Some (first.Reply map.Stored)
first_of form.Unchanged = Some (first.Reply map.Unchanged)
first_of form.Removed = Some (first.Reply map.Removed)
first_of (form.Appended sequence) = Some (first.Reply (map.Appended sequence))
first_of (form.Found text) = option_map first.Reply (option_map map.Found (found_of text))
first_of (form.Refused number detail) = option_map first.Reply (option_map map.Refused (refusal_of number detail))
first_of (form.All count) = Some (first.Count count)
first_of (form.Bundle name text) = None
first_of (form.Speaks version) = None
first_of form.Same = Some (first.Reply map.Same)
first_of reply = option_map first.Error (error_of reply)

-- it says the whole answer, or of all bundles how many there are
abbrev pub Says : First → form.Reply → Type 0
Says (first.Reply reply) told = (answer_form (Ok reply) ≡ told) × (bundles_of (Ok reply) ≡ []) × IsValidAnswer (Ok reply)
Says (first.Error error) told = answer_form (Err error) ≡ told
Says (first.Count count) told = told ≡ form.All count

-- the payload is that of the whole answer, which the operation may have
pub record IsWholeAnswer (op : Op) (payload : List ℕ) (answer : Answer) : Type 0 where
  pub may : MayAnswer op answer
  pub valid : IsValidAnswer answer
  pub is : frame payload ≡ answer_frames answer

-- the payload is that of the number of all bundles, with which only they begin
pub record IsCountOfAll (op : Op) (payload : List ℕ) (count : ℕ) : Type 0 where
  pub may : is_code_for op 97 ≡ true
  pub is : payload ≡ 97 ∷ to_be_bytes w64 count
  pub fits : count < 2 ^ 64
  pub only : (answer : Answer) (rest : List ℕ) → IsValidAnswer answer → answer_frames answer ≡ frame payload ++ rest
      → (items : Domains) × (answer ≡ Ok (map.All items)) × (length items ≡ count)

-- the payload is the first of an answer that the operation may have
abbrev pub Begins : Op → List ℕ → First → Type 0
Begins op payload (first.Reply reply) = IsWholeAnswer op payload (Ok reply)
Begins op payload (first.Error error) = IsWholeAnswer op payload (Err error)
Begins op payload (first.Count count) = IsCountOfAll op payload count
