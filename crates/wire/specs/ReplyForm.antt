-- Replies as lines of text, and as the payloads of frames.
use Rattle.std.specs.Prelude.{◌≡◌, ℕ, ◌<◌, ◌^◌, List, [], ◌∷◌, ◌++◌, length, codes, decimal, Bool, true, false, ◌==◌, ◌||◌, if◌then◌else◌, Option, Some, None}
use Rattle.std.specs.Int.{w32, w64, to_be_bytes}
use Rattle.map_core.specs.Dump.{count_payload, bundle_payload}
use Rattle.wire.specs.declared.version.Version.{Version}
use Rattle.wire.specs.Fields.{expect_bytes, sequence_bytes, version_number}
use Rattle.wire.specs.RequestForm.{IsExpect, IsNameWord, IsOneLine, expect_word, version_word, ◌then◌}
use Rattle.wire.specs.declared.reply.Detail.{Detail}
use Rattle.wire.specs.declared.reply.Detail.TheVariants.{Nothing, Place, SequenceOf, Expected}
use Rattle.wire.specs.declared.reply.Kind.{Kind}
use Rattle.wire.specs.declared.reply.Kind.TheVariants.{Bare, OfPlace, OfSequence, OfExpect}
use Rattle.wire.specs.declared.reply.ReplyForm.{ReplyForm}
use Rattle.wire.specs.declared.reply.ReplyForm.TheVariants as borrowed

-- what a reply says, wherever its name and its text lie
pub data Reply : Type 0 where
  Stored : Reply
  Unchanged : Reply
  Removed : Reply
  Appended : (sequence : Option ℕ) → Reply
  Found : (text : List ℕ) → Reply
  All : (count : ℕ) → Reply
  Bundle : (name text : List ℕ) → Reply
  Same : Reply
  Counts : (text : List ℕ) → Reply
  Speaks : (version : Version) → Reply
  Refused : (number : ℕ) (detail : Detail) → Reply
  Moved : (shard first second : ℕ) → Reply
  Held : (shard revision : ℕ) → Reply
  Worn : (shard : ℕ) → Reply
  Memory : Reply
  Shut : Reply

-- what a form says
abbrev pub reply : ReplyForm → Reply
reply borrowed.Stored = Stored
reply borrowed.Unchanged = Unchanged
reply borrowed.Removed = Removed
reply (borrowed.Appended sequence) = Appended sequence
reply (borrowed.Found text) = Found text.now
reply (borrowed.All count) = All count
reply (borrowed.Bundle name text) = Bundle name.now text.now
reply borrowed.Same = Same
reply (borrowed.Counts text) = Counts text.now
reply (borrowed.Speaks version) = Speaks version
reply (borrowed.Refused number detail) = Refused number detail
reply (borrowed.Moved shard first second) = Moved shard first second
reply (borrowed.Held shard revision) = Held shard revision
reply (borrowed.Worn shard) = Worn shard
reply borrowed.Memory = Memory
reply borrowed.Shut = Shut

-- ---- refusals

abbrev pub is_one_of : List ℕ → ℕ → Bool
is_one_of [] number = false
is_one_of (one ∷ others) number = (number == one) || is_one_of others number

-- the refusals that say no more than their number
abbrev pub bare_numbers : List ℕ
bare_numbers = 1 ∷ 10 ∷ 11 ∷ 12 ∷ 13 ∷ 14 ∷ 15 ∷ 21 ∷ 23 ∷ 30 ∷ 32 ∷ 33 ∷ 34 ∷ 35 ∷ 51 ∷ []

-- the refusals that say where the fault is
abbrev pub place_numbers : List ℕ
place_numbers = 3 ∷ 16 ∷ 17 ∷ 18 ∷ 19 ∷ 20 ∷ []

-- what a refusal of this number says beside it: 31 the stored sequence, 36 what was found. None for the number of no refusal
unfoldable pub kind_of : ℕ → Option Kind
kind_of number =
    if is_one_of bare_numbers number then Some Bare
    else if is_one_of place_numbers number then Some OfPlace
    else if number == 31 then Some OfSequence
    else if number == 36 then Some OfExpect
    else None

abbrev pub detail_kind : Detail → Kind
detail_kind Nothing = Bare
detail_kind (Place place) = OfPlace
detail_kind (SequenceOf sequence) = OfSequence
detail_kind (Expected expect) = OfExpect

-- places have 4 bytes and sequences 8
abbrev pub DetailFits : Detail → Type 0
DetailFits Nothing = Unit {0}
DetailFits (Place place) = place < 2 ^ 32
DetailFits (SequenceOf sequence) = sequence < 2 ^ 64
DetailFits (Expected expect) = IsExpect expect

-- a number of a refusal, with what such a refusal says
abbrev pub IsRefusal : ℕ → Detail → Type 0
IsRefusal number detail = (kind_of number ≡ Some (detail_kind detail)) × DetailFits detail

abbrev pub SequenceFits : Option ℕ → Type 0
SequenceFits None = Unit {0}
SequenceFits (Some sequence) = sequence < 2 ^ 64

-- ---- as a line

-- a dash for a bundle without a sequence
abbrev pub sequence_word : Option ℕ → List ℕ
sequence_word None = codes "-"
sequence_word (Some sequence) = decimal sequence

abbrev pub refusal_words : ℕ → Detail → List ℕ
refusal_words number Nothing = decimal number
refusal_words number (Place place) = decimal number then decimal place
refusal_words number (SequenceOf sequence) = decimal number then decimal sequence
refusal_words number (Expected expect) = decimal number then expect_word expect

-- the line of a reply, without its line feed: words with single spaces between, of which a text is the last
abbrev pub line_of : Reply → List ℕ
line_of Stored = codes "stored"
line_of Unchanged = codes "unchanged"
line_of Removed = codes "removed"
line_of (Appended sequence) = codes "appended" then sequence_word sequence
line_of (Found text) = codes "found" then text
line_of (All count) = codes "all" then decimal count
line_of (Bundle name text) = codes "bundle" then name then text
line_of Same = codes "same"
line_of (Counts text) = codes "stats" then text
line_of (Speaks version) = codes "version" then version_word version
line_of (Refused number detail) = codes "refused" then refusal_words number detail
line_of (Moved shard first second) = codes "moved" then decimal shard then decimal first then decimal second
line_of (Held shard revision) = codes "held" then decimal shard then decimal revision
line_of (Worn shard) = codes "worn" then decimal shard
line_of Memory = codes "memory"
line_of Shut = codes "shut"

-- its name is a word, its numbers fit, and a refusal says what its number tells
abbrev pub HasLine : Reply → Type 0
HasLine Stored = Unit {0}
HasLine Unchanged = Unit {0}
HasLine Removed = Unit {0}
HasLine (Appended sequence) = SequenceFits sequence
HasLine (Found text) = Unit {0}
HasLine (All count) = count < 2 ^ 64
HasLine (Bundle name text) = IsNameWord name
HasLine Same = Unit {0}
HasLine (Counts text) = Unit {0}
HasLine (Speaks version) = Unit {0}
HasLine (Refused number detail) = IsRefusal number detail
HasLine (Moved shard first second) = (shard < 2 ^ 32) × (first < 2 ^ 64) × (second < 2 ^ 64)
HasLine (Held shard revision) = (shard < 2 ^ 32) × (revision < 2 ^ 64)
HasLine (Worn shard) = shard < 2 ^ 32
HasLine Memory = Unit {0}
HasLine Shut = Unit {0}

-- ---- as the payload of a frame

abbrev pub detail_bytes : Detail → List ℕ
detail_bytes Nothing = []
detail_bytes (Place place) = to_be_bytes w32 place
detail_bytes (SequenceOf sequence) = to_be_bytes w64 sequence
detail_bytes (Expected expect) = expect_bytes expect

-- the code or the number of a refusal or an error, and what it says: numbers of 4 or 8 bytes, a name after its length, a text
abbrev pub payload_of : Reply → List ℕ
payload_of Stored = 115 ∷ []
payload_of Unchanged = 117 ∷ []
payload_of Removed = 100 ∷ []
payload_of (Appended sequence) = 112 ∷ sequence_bytes sequence
payload_of (Found text) = 102 ∷ text
payload_of (All count) = count_payload count
payload_of (Bundle name text) = bundle_payload name text
payload_of Same = 101 ∷ []
payload_of (Counts text) = 109 ∷ text
payload_of (Speaks version) = 118 ∷ version_number version ∷ []
payload_of (Refused number detail) = number ∷ detail_bytes detail
payload_of (Moved shard first second) = 41 ∷ to_be_bytes w32 shard ++ (to_be_bytes w64 first ++ to_be_bytes w64 second)
payload_of (Held shard revision) = 42 ∷ to_be_bytes w32 shard ++ to_be_bytes w64 revision
payload_of (Worn shard) = 40 ∷ to_be_bytes w32 shard
payload_of Memory = 22 ∷ []
payload_of Shut = 56 ∷ []

-- as for a line, except that a name may be any bytes
abbrev pub HasPayload : Reply → Type 0
HasPayload (Bundle name text) = length name < 256
HasPayload reply = HasLine reply

-- one of all bundles, under its name
abbrev pub is_bundle : Reply → Bool
is_bundle (Bundle name text) = true
is_bundle reply = false

-- whether a code is the number of an error of whoever is asked
abbrev pub is_error_code : ℕ → Bool
is_error_code code = (code == 22) || ((code == 40) || ((code == 41) || ((code == 42) || (code == 56))))

-- ---- written

-- the text at the end, if there is one
abbrev pub text_of : Reply → List ℕ
text_of (Found text) = text
text_of (Counts text) = text
text_of (Bundle name text) = text
text_of reply = []

-- it has a line, which is one line
abbrev pub IsLined : Reply → Type 0
IsLined reply = HasLine reply × IsOneLine (line_of reply)
