-- A stream of which only so many reads may be made, and what one read or write of it does for a session.
use Rattle.std.specs.Prelude.{◌≡◌, ◌≢◌, ℕ, ◌+◌, ◌<◌, List, [], ◌++◌, length, Option, Result, Ok, Err, Bool, true, false}
use Rattle.std.specs.Io.KnownBytes.{Consumes, IsAtEnd}
use Rattle.frame_front.specs.Live.{LiveView, Feeds}
use Rattle.workers.specs.Stream.{StreamLimits}
use Rattle.workers.specs.Connection.{room_bytes}
use Rattle.workers.specs.Reads.{reads_for}
use Rattle.workers.specs.declared.limited.Limited.{Limited}
use Rattle.workers.specs.declared.limited.StreamFailed.{StreamFailed}
use Rattle.workers.specs.declared.limited.ReadOutcome.{ReadOutcome}
use Rattle.workers.specs.declared.limited.ReadOutcome.TheVariants.{Piece, Nothing, End, NoMemory, Failed as Fails}

abbrev pub stream_of : {E : Type 0} → Limited E → E
stream_of limited = limited.end

-- how many reads may still be made
abbrev pub turns_of : {E : Type 0} → Limited E → ℕ
turns_of limited = limited.turns

-- how many bytes were written
abbrev pub written_of : {E : Type 0} → Limited E → ℕ
written_of limited = limited.written

-- all is written, or bytes are left
abbrev pub IsSentAs : Result Bool StreamFailed → StreamLimits → List ℕ → Type 0
IsSentAs (Ok true) may left = left ≡ []
IsSentAs (Ok false) may left = (left ≢ []) × (may.write_waits ≡ true)
IsSentAs (Err broken) may left = (left ≢ []) × (may.write_fails ≡ true)

-- whether a read that left some of its room says so
abbrev pub LeavesAs : Bool → StreamLimits → Type 0
LeavesAs has_left may = has_left ≡ true → may.leaves_room ≡ true

-- whether what was read is short says so
abbrev pub IsShortAs : Bool → List ℕ → Type 0
IsShortAs has_left piece = has_left ≡ true → length piece < room_bytes

-- If no piece came, the session is as it was. Only if memory was refused, bytes are lost; at the end none is left to be read.
abbrev pub TakesUntil : ReadOutcome → List ℕ → List ℕ → StreamLimits → Option (List ℕ) → LiveView → LiveView → Type 0
TakesUntil (Piece has_left) piece lost may left old new = (lost ≡ []) × (0 < length piece) × LeavesAs has_left may × IsShortAs has_left piece
TakesUntil Nothing piece lost may left old new = (lost ≡ []) × (new ≡ old) × (may.read_waits ≡ true)
TakesUntil End piece lost may left old new = (lost ≡ []) × (new ≡ old) × IsAtEnd left
TakesUntil NoMemory piece lost may left old new = (new ≡ old) × (0 < length lost)
TakesUntil Fails piece lost may left old new = (lost ≡ []) × (new ≡ old) × (may.read_fails ≡ true)

-- whether a read that came to this counts
abbrev pub read_for : ReadOutcome → ℕ
read_for (Piece has_left) = 1
read_for Nothing = 0
read_for End = 0
read_for NoMemory = 1
read_for Fails = 0

-- a piece was read, and fed to the session, and these bytes were lost
pub record Takes (came : ReadOutcome) (may : StreamLimits) (left_old left_new : Option (List ℕ)) (turns_old turns_new : ℕ) (old new : LiveView) : Type 0 where
  pub piece : List ℕ
  pub lost : List ℕ
  pub feeds : Feeds piece old new
  pub consumes : Consumes left_old left_new (piece ++ lost)
  pub reads : turns_new + read_for came ≡ turns_old
  pub one_read : read_for came ≡ reads_for piece + reads_for lost
  pub until : TakesUntil came piece lost may left_new old new
