-- What decoding a stream does to its reader and its writer.
use Rattle.std.specs.Prelude.{length, ◌≡◌, ◌≢◌, ℕ, ◌-◌, ◌^◌, ◌≤◌, List, [], ◌∷◌, ◌++◌, Option, Result, Ok, Err}
use Rattle.std.specs.List.{flat_map, AllByRecursion}
use Rattle.std.specs.Io.KnownBytes.{Appends, Consumes, IsAtEnd}
use Rattle.wire.specs.Frame.{frame, IsPayload, IsUnfinished, IsBadLength}
use Rattle.wire.specs.Output.{WritesFront}
use Rattle.wire.specs.declared.error.FrontError.TheVariants.{BadLength, Truncated, ReadFault, WriteFault, TurnsUsed}
use Rattle.wire.specs.Encoding.{count_after}
use Rattle.wire.specs.Decoding.{IsLineOf}
use Rattle.wire.specs.declared.decode.DecodeError.{DecodeError}
use Rattle.wire.specs.declared.decode.DecodeError.TheVariants.{BadFrame, Front}

-- a payload, and its line with a line feed behind it
abbrev pub IsWritten : List ℕ × List ℕ → Type 0
IsWritten item = (line : List ℕ) × IsLineOf item.0 line × (item.1 ≡ line ++ 10 ∷ [])

-- frames one after another, and their lines
abbrev pub frames_in : List (List ℕ × List ℕ) → List ℕ
frames_in items = flat_map (λ item. frame item.0) items

abbrev pub lines_out : List (List ℕ × List ℕ) → List ℕ
lines_out items = flat_map (λ item. item.1) items

-- a whole frame stands first, and its payload has no line
abbrev pub BeginsUnlined : List ℕ → Type 0
BeginsUnlined bytes = (payload : List ℕ) × (rest : List ℕ) × IsPayload payload × (bytes ≡ frame payload ++ rest) × ((line : List ℕ) → IsLineOf payload line → ⊥)

-- how it ends after so many frames, with what is left of the bytes that were read
abbrev pub EndsFrames : Result (Unit {0}) DecodeError → ℕ → List ℕ → Option (List ℕ) → Type 0
EndsFrames (Ok done) frames rest left = IsAtEnd left × (rest ≡ [])
EndsFrames (Err (BadFrame place)) frames rest left = (place ≡ frames) × BeginsUnlined rest
EndsFrames (Err (Front BadLength)) frames rest left = IsBadLength rest
EndsFrames (Err (Front Truncated)) frames rest left = IsAtEnd left × IsUnfinished rest × (rest ≢ [])
-- each whole frame that was read became its line
EndsFrames (Err (Front ReadFault)) frames rest left = IsUnfinished rest
EndsFrames (Err (Front TurnsUsed)) frames rest left = IsUnfinished rest
EndsFrames (Err error) frames rest left = Unit {0}

-- all of the bytes are written; if the writer failed, a front of them
abbrev pub WritesLines : Result (Unit {0}) DecodeError → Option (List ℕ) → Option (List ℕ) → List ℕ → Type 0
WritesLines (Err (Front WriteFault)) old new bytes = WritesFront old new bytes
WritesLines ended old new bytes = Appends old new bytes

-- if the reads are used up, each of them gave at least one byte
abbrev pub UsesTurns : Result (Unit {0}) DecodeError → ℕ → Type 0
UsesTurns (Err (Front TurnsUsed)) read = 2 ^ 64 - 1 ≤ read
UsesTurns ended read = Unit {0}

pub record DecodesStream (result : Result (Unit {0}) DecodeError) (left_old left_new held_old held_new : Option (List ℕ)) : Type 0 where
  pub items : List (List ℕ × List ℕ)
  pub rest : List ℕ
  pub each : AllByRecursion IsWritten items
  pub consumes : Consumes left_old left_new (frames_in items ++ rest)
  pub ends : EndsFrames result (count_after 0 items) rest left_new
  pub writes : WritesLines result held_old held_new (lines_out items)
  pub used : UsesTurns result (length (frames_in items ++ rest))
