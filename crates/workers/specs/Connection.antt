-- A connection, and what one turn of it does.
use Rattle.std.specs.Prelude.{◌≡◌, ◌≢◌, ℕ, ◌+◌, ◌-◌, ◌*◌, ◌^◌, ◌<◌, ◌≤◌, ◌⊎◌, ◌==◌, ◌||◌, if◌then◌else◌, not, min, ⊤, List, [], ◌∷◌, ◌++◌, length, Option, Some, None, Result, Ok, Err, Bool, true, false}
use Rattle.std.specs.Io.KnownBytes.{Appends, Consumes, IsAtEnd}
use Rattle.map_core.specs.declared.op.Op.{Op}
use Rattle.map_core.specs.declared.reply.Reply.{Reply}
use Rattle.map_core.specs.declared.reply.AskError.{AskError}
use Rattle.wire.specs.declared.error.FrontError.{FrontError}
use Rattle.wire.specs.declared.error.FrontError.TheVariants.{BadLength, Truncated, ReadFault, WriteFault, TurnsUsed, Memory}
use Rattle.wire.specs.Frame.{IsUnfinished, IsBadLength}
use Rattle.wire.specs.Decoder.{BeginsWithFrame}
use Rattle.frame_front.specs.Live.{LiveView, live_start, most_frames, most_kept, reply_limit, waiting}
use Rattle.frame_front.specs.LiveCalls.{LiveCall, Feed, DoesAll, fed, sent, frames_of, frame_bytes_of}
use Rattle.workers.specs.Stream.{StreamLimits}
use Rattle.workers.specs.Reads.{reads_for, reads_of}
use Rattle.workers.specs.declared.turn_end.TurnEnd.{TurnEnd}
use Rattle.workers.specs.declared.turn_end.TurnEnd.TheVariants.{Waits, Again, Over}

-- A connection between two turns: its session, how many frames were answered, how many bytes of replies were written, how many
-- reads it may still make, whether its input has ended, whether bytes that were read are lost, and whether its client is known to have closed its side. Of its stream: what
-- its calls may come to and, where they are known, the bytes that it has left to read, and those that were written to it.
pub record ConnectionView : Type 0 where
  pub live : LiveView
  pub answered : ℕ
  pub written : ℕ
  pub turns : ℕ
  pub has_ended : Bool
  pub has_lost : Bool
  pub is_closing : Bool
  pub may : StreamLimits
  pub left : Option (List ℕ)
  pub held : Option (List ℕ)

-- a new connection over a stream, for reads only or for all, which may make so many reads
abbrev pub opened : (reads_only : Bool) (turns : ℕ) → StreamLimits → (left held : Option (List ℕ)) → ConnectionView
opened reads_only turns may left held = record {
  live = live_start reads_only;
  answered = 0;
  written = 0;
  turns = turns;
  has_ended = false;
  has_lost = false;
  is_closing = false;
  may = may;
  left = left;
  held = held;
}

-- its input has ended
abbrev pub ended : ConnectionView → ConnectionView
ended c = record c { has_ended = true }

-- maybe it is told that its client has closed its side
abbrev pub told : Bool → ConnectionView → ConnectionView
told true c = record c { is_closing = true }
told false c = c

-- a count that stays at 2^64 - 1 once there
abbrev pub counted : ℕ → ℕ
counted n = min n (2 ^ 64 - 1)

-- A turn has so many rounds. In each no more frames are answered than one call of the session answers.
abbrev pub turn_rounds : ℕ
turn_rounds = 8

-- Once the frames that it has answered have so many bytes, a turn ends too.
abbrev pub turn_bytes : ℕ
turn_bytes = 131072

-- the last turn is longer
abbrev pub last_rounds : ℕ
last_rounds = 64

-- whether the input has ended is as before, or it ends now, as the stream has no byte left
abbrev pub EndsHere : ConnectionView → ConnectionView → Type 0
EndsHere old new = (new.has_ended ≡ old.has_ended) ⊎ ((new.has_ended ≡ true) × IsAtEnd new.left)

-- no reply waits
abbrev pub AllSent : ConnectionView → Type 0
AllSent new = waiting new.live ≡ []

-- Of the reads that it may make so many were made, and each gave bytes. The connection itself counts them, of any stream.
abbrev pub MakesReads : ℕ → ConnectionView → ConnectionView → Type 0
MakesReads reads old new = new.turns + reads ≡ old.turns

-- In each of so many rounds a piece was read, or as many bytes of replies were sent as are ready at once.
abbrev pub HadShare : ℕ → List LiveCall → Type 0
HadShare rounds calls = (writes : ℕ) × (rounds ≤ reads_of calls + writes) × (writes * reply_limit ≤ length (sent calls))

-- how many bytes there is room for in one read
abbrev pub room_bytes : ℕ
room_bytes = 65536

-- The last read that these calls were fed with was a short one.
pub record EndsShort (calls : List LiveCall) : Type 0 where
  pub before : List LiveCall
  pub piece : List ℕ
  pub after : List LiveCall
  pub parts : calls ≡ before ++ Feed piece ∷ after
  pub some : 0 < length piece
  pub short : length piece < room_bytes
  pub no_more : reads_of after ≡ 0

-- The stream has nothing more to read now: it would have to wait, or the last read has left some of its room. That does not say
-- that there is no more if the client has closed its side.
abbrev pub HasNoMore : (IsShort : Type 0) → ConnectionView → Type 0
HasNoMore IsShort new = (new.may.read_waits ≡ true) ⊎ ((new.may.leaves_room ≡ true) × (new.is_closing ≡ false) × IsShort)

-- A connection waits only while its stream takes no more replies, or no whole frame is left, its input has not ended, it may read
-- on, and there is no more to read now.
abbrev pub WaitsFor : (IsShort : Type 0) → ConnectionView → Type 0
WaitsFor IsShort new = ((new.live.ready ≢ []) × (new.may.write_waits ≡ true))
    ⊎ (IsUnfinished new.live.kept × AllSent new × (new.has_ended ≡ false) × (0 < new.turns) × HasNoMore IsShort new)

-- Why a session is over. If its connection may read no more, all whole frames are answered and all replies sent. Out of memory, a
-- part of a reply waits that could not be stored, or bytes are lost.
abbrev pub StopsFor : Result ℕ FrontError → ConnectionView → Type 0
StopsFor (Ok count) new = (count ≡ new.answered) × (new.live.kept ≡ []) × AllSent new × (new.has_ended ≡ true)
StopsFor (Err BadLength) new = IsBadLength new.live.kept × AllSent new
StopsFor (Err Truncated) new = IsUnfinished new.live.kept × (new.live.kept ≢ []) × AllSent new × (new.has_ended ≡ true)
StopsFor (Err ReadFault) new = IsUnfinished new.live.kept × AllSent new × (new.has_ended ≡ false) × (new.may.read_fails ≡ true)
StopsFor (Err WriteFault) new = (new.live.ready ≢ []) × (new.may.write_fails ≡ true)
StopsFor (Err TurnsUsed) new = IsUnfinished new.live.kept × AllSent new × (new.has_ended ≡ false) × (new.turns ≡ 0)
StopsFor (Err Memory) new = (new.live.later ≢ []) ⊎ (new.has_lost ≡ true)

-- Why a turn of so many rounds ends, in which these calls were made. It has more to do then if it had its share of rounds or, unless its
-- input has ended, of bytes.
abbrev pub EndsFor : ℕ → TurnEnd → List LiveCall → ConnectionView → Type 0
EndsFor rounds Waits calls new = WaitsFor (EndsShort calls) new
EndsFor rounds Again calls new = HadShare rounds calls ⊎ ((turn_bytes ≤ frame_bytes_of calls) × (new.has_ended ≡ false))
EndsFor rounds (Over result) calls new = StopsFor result new

-- What a client owes: the rest of a frame, or that it takes replies. It owes nothing if no reply is ready, and nothing is kept
-- but whole frames.
abbrev pub Owes : Option FrontError → ConnectionView → Type 0
Owes None c = (c.live.ready ≡ []) × ((c.live.kept ≡ []) ⊎ BeginsWithFrame c.live.kept)
Owes (Some ReadFault) c = (c.live.ready ≡ []) × ((IsUnfinished c.live.kept × (c.live.kept ≢ [])) ⊎ IsBadLength c.live.kept)
Owes (Some WriteFault) c = c.live.ready ≢ []
Owes (Some error) c = ⊥

abbrev pub has_bytes : List ℕ → Bool
has_bytes [] = false
has_bytes (byte ∷ bytes) = true

-- Whether a client got on in a turn. If replies waited for it, it took some bytes of them; else a frame of it was answered, unless
-- it had begun none.
abbrev pub got_on : ConnectionView → ConnectionView → Bool
got_on old new = if has_bytes old.live.ready then not (new.written == old.written) else (not (has_bytes old.live.kept) || not (new.answered == old.answered))

-- For how many ticks a client has been silent after a turn: since it got on last.
abbrev pub silent_after : (old new : ConnectionView) → ℕ → ℕ
silent_after old new silent = if got_on old new then 0 else silent

-- How old the last reply of a client is after a turn: how many ticks have passed since a frame of it was answered last.
abbrev pub age_after : (old new : ConnectionView) → ℕ → ℕ
age_after old new age = if new.answered == old.answered then age else 0

-- bytes are lost only if some were read that reached no session
abbrev pub LosesOnly : List ℕ → ConnectionView → ConnectionView → Type 0
LosesOnly lost old new = new.has_lost ≡ true → (old.has_lost ≡ true) ⊎ (0 < length lost)

-- only if memory is refused, bytes are read that reach no session
abbrev pub IsLost : TurnEnd → List ℕ → Type 0
IsLost (Over (Err Memory)) lost = ⊤
IsLost result lost = lost ≡ []

-- One turn of a connection: calls of its session, one after the other, fed with what was read and whose replies were written.
-- Each piece was one read. An input that has ended is read no more.
pub record Turn (rounds : ℕ) {S : Type 0} (answers : S → Op → Result Reply AskError → S → Type 0) (result : TurnEnd)
    (old new : ConnectionView) (map_old map_new : S) : Type 0 where
  pub calls : List LiveCall
  pub lost : List ℕ
  pub does : DoesAll answers calls (old.live, map_old) (new.live, map_new)
  pub consumes : Consumes old.left new.left (fed calls ++ lost)
  pub appends : Appends old.held new.held (sent calls)
  pub written : new.written ≡ counted (old.written + length (sent calls))
  pub makes : MakesReads (reads_of calls + reads_for lost) old new
  pub answered : new.answered ≡ counted (old.answered + frames_of calls)
  pub share : frames_of calls ≤ rounds * most_frames
  pub judges : old.has_ended ≡ false → frame_bytes_of calls < turn_bytes + most_kept
  pub may : new.may ≡ old.may
  pub closing : new.is_closing ≡ old.is_closing
  pub loses : IsLost result lost
  pub loses_only : LosesOnly lost old new
  pub ends : EndsHere old new
  pub quiet : old.has_ended ≡ true → fed calls ++ lost ≡ []
  pub why : EndsFor rounds result calls new

-- how a session ends after its last turn: if it would wait, its client takes no more
abbrev pub last_end : TurnEnd → Result ℕ FrontError
last_end (Over result) = result
last_end Waits = Err WriteFault
last_end Again = Err TurnsUsed

-- the last turn of a connection, whose input ends before it, and how its session ends
abbrev pub LastTurn : {S : Type 0} (answers : S → Op → Result Reply AskError → S → Type 0) → Result ℕ FrontError
    → ConnectionView → ConnectionView → S → S → Type 0
LastTurn answers result old new map_old map_new =
    (after : TurnEnd) × Turn last_rounds answers after (ended old) new map_old map_new × (result ≡ last_end after)
