-- What encoding a stream does to its reader and its writer.
use Rattle.std.specs.Prelude.{◌≡◌, ◌⊎◌, ℕ, ◌-◌, ◌^◌, ◌≤◌, List, [], ◌++◌, length, Option, Result, Ok, Err}
use Rattle.std.specs.List.{AllByRecursion}
use Rattle.std.specs.Io.KnownBytes.{Appends, Consumes, IsAtEnd}
use Rattle.wire.specs.Output.{WritesFront}
use Rattle.wire.specs.Counted.{next_count}
use Rattle.wire.specs.declared.error.FrontError.TheVariants.{Memory, ReadFault, WriteFault, TurnsUsed}
use Rattle.wire.specs.Encoding.{Gives, EncodesLine, IsBadLine, NamesUnreadable, BeginsWith, BeginsLong, lines_of, frames_of, count_after}
use Rattle.wire.specs.RequestForm.{IsOneLine}
use Rattle.wire.specs.declared.stream.StreamError.{StreamError}
use Rattle.wire.specs.declared.stream.StreamError.TheVariants.{BadLine, Unreadable, Front}

-- How it ends, after lines that became something: what is left of the bytes that were read, and what that became.
abbrev pub EndsStream : Gives → Result (Unit {0}) StreamError → List (List ℕ × List ℕ) → List ℕ → List ℕ → Option (List ℕ) → Type 0
-- the reader is at its end, and the last line may lack its line feed
EndsStream gives (Ok done) items rest last left = IsAtEnd left × EncodesLine gives (rest, last)
-- the next line is bad, or too long already; or the last is bad
EndsStream gives (Err (BadLine number)) items rest last left =
    (number ≡ next_count (count_after 0 items)) × (last ≡ [])
    × ((BeginsWith (IsBadLine gives) rest ⊎ BeginsLong rest) ⊎ (IsAtEnd left × IsBadLine gives rest))
-- the text that the next line names, or the last, cannot be read
EndsStream gives (Err (Unreadable number)) items rest last left =
    (number ≡ next_count (count_after 0 items)) × (last ≡ []) × (BeginsWith (NamesUnreadable gives) rest ⊎ (IsAtEnd left × NamesUnreadable gives rest))
EndsStream gives (Err (Front WriteFault)) items rest last left = (last ≡ []) ⊎ EncodesLine gives (rest, last)
-- each whole line that was read became its frame
EndsStream gives (Err (Front ReadFault)) items rest last left = (last ≡ []) × IsOneLine rest
EndsStream gives (Err (Front TurnsUsed)) items rest last left = (last ≡ []) × IsOneLine rest
EndsStream gives (Err (Front Memory)) items rest last left = last ≡ []
EndsStream gives ended items rest last left = ⊥

-- all of the bytes are written; if the writer failed, a front of them
abbrev pub WritesStream : Result (Unit {0}) StreamError → Option (List ℕ) → Option (List ℕ) → List ℕ → Type 0
WritesStream (Err (Front WriteFault)) old new bytes = WritesFront old new bytes
WritesStream ended old new bytes = Appends old new bytes

-- if the reads are used up, each of them gave at least one byte
abbrev pub UsesTurns : Result (Unit {0}) StreamError → ℕ → Type 0
UsesTurns (Err (Front TurnsUsed)) read = 2 ^ 64 - 1 ≤ read
UsesTurns ended read = Unit {0}

pub record EncodesStream (gives : Gives) (result : Result (Unit {0}) StreamError) (left_old left_new held_old held_new : Option (List ℕ)) : Type 0 where
  pub items : List (List ℕ × List ℕ)
  pub rest : List ℕ
  pub last : List ℕ
  pub each : AllByRecursion (EncodesLine gives) items
  pub consumes : Consumes left_old left_new (lines_of items ++ rest)
  pub ends : EndsStream gives result items rest last left_new
  pub writes : WritesStream result held_old held_new (frames_of items ++ last)
  pub used : UsesTurns result (length (lines_of items ++ rest))
