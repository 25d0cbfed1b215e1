-- How far an encoder is with the lines that it keeps, and a stream with its encoder.
use Rattle.std.specs.Prelude.{◌≡◌, ◌⊎◌, ℕ, ◌≤◌, List, [], ◌++◌, length, Option, Result, Ok, Err}
use Rattle.std.specs.List.{AllByRecursion}
use Rattle.std.specs.Io.KnownBytes.{Appends, Consumes}
use Rattle.wire.specs.Counted.{next_count}
use Rattle.wire.specs.declared.error.FrontError.TheVariants.{Memory, WriteFault}
use Rattle.wire.specs.declared.encoder.EncodeError.{EncodeError}
use Rattle.wire.specs.declared.encoder.EncodeError.TheVariants as lines
use Rattle.wire.specs.declared.line_frame.LineError.{LineError}
use Rattle.wire.specs.declared.line_frame.LineError.TheVariants as one
use Rattle.wire.specs.declared.stream.StreamError.{StreamError}
use Rattle.wire.specs.declared.stream.StreamError.TheVariants as streams
use Rattle.wire.specs.Encoding.{EncoderState, Gives, Becomes, EncodesLine, IsBadLine, NamesUnreadable, BeginsWith, BeginsLong, lines_of, frames_of, count_after}
use Rattle.wire.specs.EncodedStream.{WritesStream}
use Rattle.wire.specs.RequestForm.{IsOneLine}

-- why the line of this number became nothing
abbrev pub stopped : ℕ → LineError → EncodeError
stopped number one.Bad = lines.BadLine number
stopped number one.Unreadable = lines.Unreadable number
stopped number one.Memory = lines.Memory

-- why a stream ends if its encoder stops so
abbrev pub stream_error : EncodeError → StreamError
stream_error (lines.BadLine line) = streams.BadLine line
stream_error (lines.Unreadable line) = streams.Unreadable line
stream_error lines.Memory = streams.Front Memory

-- of the lines that were kept these are encoded; of their frames some are sent, and the others wait
pub record KeptSoFar (gives : Gives) (old new : EncoderState) (held_old held_new : Option (List ℕ)) (waiting : List ℕ) : Type 0 where
  pub items : List (List ℕ × List ℕ)
  pub sent : List ℕ
  pub each : AllByRecursion (EncodesLine gives) items
  pub kept_is : old.kept ≡ lines_of items ++ new.kept
  pub lines_are : new.lines ≡ count_after old.lines items
  pub appends : Appends held_old held_new sent
  pub frames_are : frames_of items ≡ sent ++ waiting

-- how it ends after so many lines
abbrev pub EndsKept : Gives → Result (Unit {0}) StreamError → ℕ → List ℕ → EncoderState → Type 0
EndsKept gives (Ok done) lines rest new = IsOneLine rest × (new.kept ≡ rest) × (new.lines ≡ lines)
EndsKept gives (Err (streams.BadLine number)) lines rest new = (number ≡ next_count lines) × (BeginsWith (IsBadLine gives) rest ⊎ BeginsLong rest)
EndsKept gives (Err (streams.Unreadable number)) lines rest new = (number ≡ next_count lines) × BeginsWith (NamesUnreadable gives) rest
EndsKept gives (Err (streams.Front WriteFault)) lines rest new = Unit {0}
EndsKept gives (Err (streams.Front Memory)) lines rest new = Unit {0}
EndsKept gives ended lines rest new = ⊥

-- all lines that were kept are encoded and sent, or why not
pub record EncodesKept (gives : Gives) (result : Result (Unit {0}) StreamError) (old new : EncoderState) (held_old held_new : Option (List ℕ)) : Type 0 where
  pub items : List (List ℕ × List ℕ)
  pub rest : List ℕ
  pub each : AllByRecursion (EncodesLine gives) items
  pub kept_is : old.kept ≡ lines_of items ++ rest
  pub ends : EndsKept gives result (count_after old.lines items) rest new
  pub writes : WritesStream result held_old held_new (frames_of items)

-- how it ends with the last line
abbrev pub EndsLast : Gives → Result (Unit {0}) StreamError → EncoderState → List ℕ → Type 0
EndsLast gives (Ok done) state last = Becomes gives (state.kept, last)
EndsLast gives (Err (streams.BadLine number)) state last = (number ≡ next_count state.lines) × IsBadLine gives state.kept × (last ≡ [])
EndsLast gives (Err (streams.Unreadable number)) state last = (number ≡ next_count state.lines) × NamesUnreadable gives state.kept × (last ≡ [])
EndsLast gives (Err (streams.Front WriteFault)) state last = Becomes gives (state.kept, last)
EndsLast gives (Err (streams.Front Memory)) state last = last ≡ []
EndsLast gives ended state last = ⊥

-- what is left is the last line
pub record EncodesLast (gives : Gives) (result : Result (Unit {0}) StreamError) (state : EncoderState) (held_old held_new : Option (List ℕ)) : Type 0 where
  pub last : List ℕ
  pub ends : EndsLast gives result state last
  pub writes : WritesStream result held_old held_new last

-- a stream between two reads
pub record StreamSoFar (gives : Gives) (left_old left_new held_old held_new : Option (List ℕ)) (state : EncoderState) (turns : ℕ) : Type 0 where
  pub items : List (List ℕ × List ℕ)
  pub each : AllByRecursion (EncodesLine gives) items
  pub consumes : Consumes left_old left_new (lines_of items ++ state.kept)
  pub appends : Appends held_old held_new (frames_of items)
  pub lines_are : state.lines ≡ count_after 0 items
  pub one_line : IsOneLine state.kept
  pub each_turn : turns ≤ length (lines_of items ++ state.kept)
