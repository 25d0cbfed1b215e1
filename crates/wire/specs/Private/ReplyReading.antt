-- How a reply is read from a payload.
use Rattle.std.specs.Prelude.{ℕ, List, [], ◌∷◌, length, take, drop, nat_le, ◌==◌, if◌then◌else◌, Option, Some, None, option_map}
use Rattle.std.specs.Int.{w32, w64, from_be_bytes}
use Rattle.map_core.specs.declared.op.Expect.{Expect}
use Rattle.map_core.specs.declared.op.Expect.TheVariants.{Absent, Sequence, Unnumbered}
use Rattle.wire.specs.ReplyForm.{is_error_code, Reply, Stored, Unchanged, Removed, Appended, Found, All, Same, Counts, Bundle, Speaks, Refused, Moved, Held, Worn, Memory, Shut, kind_of}
use Rattle.wire.specs.declared.reply.Detail.{Detail}
use Rattle.wire.specs.declared.reply.Detail.TheVariants.{Nothing, Place, SequenceOf, Expected}
use Rattle.wire.specs.declared.reply.Kind.{Kind}
use Rattle.wire.specs.declared.reply.Kind.TheVariants.{Bare, OfPlace, OfSequence, OfExpect}
use Rattle.wire.specs.PayloadReading.{◌>>=◌, at_end, of_both, split_named, version_in}

-- a number of 4 bytes, and nothing more
unfoldable pub short_number : List ℕ → Option ℕ
short_number bytes = if length bytes == 4 then Some (from_be_bytes w32 bytes) else None

-- a number of 8 bytes, and nothing more
unfoldable pub long_number : List ℕ → Option ℕ
long_number bytes = if length bytes == 8 then Some (from_be_bytes w64 bytes) else None

-- 0, or 1 and a sequence
unfoldable pub sequence_in : List ℕ → Option (Option ℕ)
sequence_in [] = None
sequence_in (kind ∷ bytes) =
    if kind == 0 then at_end None bytes else if kind == 1 then option_map Some (long_number bytes) else None

-- 0, or 1 and a sequence, or 2
unfoldable pub expect_in : List ℕ → Option Expect
expect_in [] = None
expect_in (kind ∷ bytes) =
    if kind == 0 then at_end Absent bytes
    else if kind == 1 then option_map Sequence (long_number bytes)
    else if kind == 2 then at_end Unnumbered bytes
    else None

unfoldable pub detail_in : Kind → List ℕ → Option Detail
detail_in Bare bytes = at_end Nothing bytes
detail_in OfPlace bytes = option_map Place (short_number bytes)
detail_in OfSequence bytes = option_map SequenceOf (long_number bytes)
detail_in OfExpect bytes = option_map Expected (expect_in bytes)

-- so many bytes, and those after them
unfoldable pub split_at : ℕ → List ℕ → Option (List ℕ × List ℕ)
split_at size bytes = if nat_le size (length bytes) then Some (take size bytes, drop size bytes) else None

unfoldable pub moved_in : List ℕ → Option Reply
moved_in bytes = do
  parts ← split_at 4 bytes
  more ← split_at 8 parts.1
  shard ← short_number parts.0
  first ← long_number more.0
  second ← long_number more.1
  Some (Moved shard first second)

unfoldable pub held_in : List ℕ → Option Reply
held_in bytes = do
  parts ← split_at 4 bytes
  shard ← short_number parts.0
  revision ← long_number parts.1
  Some (Held shard revision)

unfoldable pub error_by_number : ℕ → List ℕ → Option Reply
error_by_number number bytes =
    if number == 22 then at_end Memory bytes
    else if number == 40 then option_map Worn (short_number bytes)
    else if number == 41 then moved_in bytes
    else if number == 42 then held_in bytes
    else if number == 56 then at_end Shut bytes
    else None

unfoldable pub reply_by_letter : ℕ → List ℕ → Option Reply
reply_by_letter letter bytes =
    if letter == 102 then Some (Found bytes)
    else if letter == 115 then at_end Stored bytes
    else if letter == 117 then at_end Unchanged bytes
    else if letter == 100 then at_end Removed bytes
    else if letter == 112 then option_map Appended (sequence_in bytes)
    else if letter == 97 then option_map All (long_number bytes)
    else if letter == 105 then option_map (of_both Bundle) (split_named bytes)
    else if letter == 101 then at_end Same bytes
    else if letter == 109 then Some (Counts bytes)
    else if letter == 118 then option_map Speaks (version_in bytes)
    else None

abbrev pub reply_by_kind : ℕ → List ℕ → Option Kind → Option Reply
reply_by_kind code bytes None = if is_error_code code then error_by_number code bytes else reply_by_letter code bytes
reply_by_kind code bytes (Some kind) = option_map (Refused code) (detail_in kind bytes)

-- the reply of a payload
unfoldable pub read_payload : List ℕ → Option Reply
read_payload [] = None
read_payload (code ∷ bytes) = reply_by_kind code bytes (kind_of code)
