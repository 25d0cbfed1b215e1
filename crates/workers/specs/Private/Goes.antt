-- What a connection does in a part of its turn.
use Rattle.std.specs.Prelude.{◌≡◌, ◌⊎◌, ℕ, ◌+◌, ◌*◌, ◌≤◌, ◌<◌, List, [], ◌++◌, length, Result, Ok, Err, Bool, true, false}
use Rattle.std.specs.Io.KnownBytes.{Appends, Consumes}
use Rattle.map_core.specs.declared.op.Op.{Op}
use Rattle.map_core.specs.declared.reply.Reply.{Reply}
use Rattle.map_core.specs.declared.reply.AskError.{AskError}
use Rattle.frame_front.specs.Live.{Feeds, most_frames}
use Rattle.frame_front.specs.LiveCalls.{LiveCall, DoesAll, fed, sent, frames_of, frame_bytes_of}
use Rattle.workers.specs.declared.turn_end.TurnEnd.{TurnEnd}
use Rattle.workers.specs.declared.turn_end.TurnEnd.TheVariants.{Waits, Again, Over}
use Rattle.workers.specs.Connection.{ConnectionView, counted, EndsHere, EndsShort, HadShare, IsLost, LosesOnly, MakesReads, StopsFor, WaitsFor}
use Rattle.workers.specs.Reads.{reads_for, reads_of}
use Rattle.workers.specs.Private.Limited.{IsShortAs, LeavesAs}

-- Its stream may come to the same, and its client is known to have closed its side, or not, as before.
abbrev pub StaysSo : ConnectionView → ConnectionView → Type 0
StaysSo old new = (new.may ≡ old.may) × (new.is_closing ≡ old.is_closing)

-- Why a part of a turn ends it. It waits for more input after a short read only if that was short in this sense.
abbrev pub StopsIn : (IsShort : Type 0) → TurnEnd → ConnectionView → Type 0
StopsIn IsShort Waits new = WaitsFor IsShort new
StopsIn IsShort Again new = ⊥
StopsIn IsShort (Over result) new = StopsFor result new

-- Bytes were read, and fed to the session; nothing else was done. If memory was refused, they are lost. If the read before has left
-- some of its room, none may be made.
abbrev pub ReadsUntil : Bool → Result Bool TurnEnd → List ℕ → List ℕ → ConnectionView → ConnectionView → Type 0
ReadsUntil had_left (Err after) piece lost old new = IsLost after lost × EndsHere old new × StopsIn ((had_left ≡ true) × (new.turns ≡ old.turns)) after new
ReadsUntil had_left (Ok has_left) piece lost old new = (lost ≡ []) × (new.has_ended ≡ old.has_ended) × (0 < length piece) × LeavesAs has_left new.may × IsShortAs has_left piece

pub record ReadsAs (had_left : Bool) (result : Result Bool TurnEnd) (old new : ConnectionView) : Type 0 where
  pub piece : List ℕ
  pub lost : List ℕ
  pub feeds : Feeds piece old.live new.live
  pub consumes : Consumes old.left new.left (piece ++ lost)
  pub makes : MakesReads (reads_for piece + reads_for lost) old new
  pub held : new.held ≡ old.held
  pub written : new.written ≡ old.written
  pub answered : new.answered ≡ old.answered
  pub stays : StaysSo old new
  pub quiet : old.has_ended ≡ true → piece ++ lost ≡ []
  pub loses_only : LosesOnly lost old new
  pub until : ReadsUntil had_left result piece lost old new

-- the last read before these calls was a short one, and they have none
abbrev pub StaysShort : Bool → List LiveCall → Type 0
StaysShort had_left calls = (had_left ≡ true) × (reads_of calls ≡ 0)

module _ {S : Type 0} (answers : S → Op → Result Reply AskError → S → Type 0) where
  -- Calls of its session, one after the other, fed with what was read, and whose replies were written. At most so many frames
  -- were answered, which had so many bytes, and these bytes were lost.
  pub record Goes (most bytes : ℕ) (lost : List ℕ) (old new : ConnectionView) (map_old map_new : S) : Type 0 where
    pub calls : List LiveCall
    pub does : DoesAll answers calls (old.live, map_old) (new.live, map_new)
    pub consumes : Consumes old.left new.left (fed calls ++ lost)
    pub appends : Appends old.held new.held (sent calls)
    pub written : new.written ≡ counted (old.written + length (sent calls))
    pub makes : MakesReads (reads_of calls + reads_for lost) old new
    pub answered : new.answered ≡ counted (old.answered + frames_of calls)
    pub share : frames_of calls ≤ most
    pub judged : frame_bytes_of calls ≡ bytes
    pub stays : StaysSo old new
    pub quiet : old.has_ended ≡ true → fed calls ++ lost ≡ []
    pub loses_only : LosesOnly lost old new

  -- One round of a turn, in which frames of so many bytes were answered. It ends the turn, or goes on: then a piece was read, or enough bytes were sent. The last read before it
  -- may have been a short one.
  abbrev pub Round : Bool → ℕ → Result Bool TurnEnd → ConnectionView → ConnectionView → S → S → Type 0
  Round had_left bytes (Err after) old new map_old map_new =
      (lost : List ℕ) × (goes : Goes most_frames bytes lost old new map_old map_new) × IsLost after lost × EndsHere old new × StopsIn (StaysShort had_left goes.calls) after new
  Round had_left bytes (Ok has_left) old new map_old map_new =
      (goes : Goes most_frames bytes [] old new map_old map_new) × (new.has_ended ≡ old.has_ended) × HadShare 1 goes.calls × LeavesAs has_left new.may
      × (has_left ≡ true → EndsShort goes.calls ⊎ StaysShort had_left goes.calls)

  -- After so many rounds of a turn, in which frames of so many bytes were answered. In the first one nothing was done yet.
  abbrev pub GoesOn : ℕ → ℕ → Bool → ConnectionView → ConnectionView → S → S → Type 0
  GoesOn rounds bytes has_left old new map_old map_new = ((rounds ≡ 0) × (new ≡ old) × (map_new ≡ map_old) × (has_left ≡ false) × (bytes ≡ 0))
      ⊎ ((goes : Goes (rounds * most_frames) bytes [] old new map_old map_new) × HadShare rounds goes.calls × (has_left ≡ true → EndsShort goes.calls))
