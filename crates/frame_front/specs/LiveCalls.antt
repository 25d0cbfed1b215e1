-- The calls of one session without ends, one after the other, and that they carry the table of a session.
use Rattle.std.specs.Prelude.{◌≡◌, ℕ, ◌+◌, List, [], ◌∷◌, ◌++◌, length, Result, Bool}
use Rattle.std.specs.List.{AllByRecursion, concat, flat_map}
use Rattle.map_core.specs.declared.op.Op.{Op}
use Rattle.map_core.specs.declared.reply.Reply.{Reply}
use Rattle.map_core.specs.declared.reply.AskError.{AskError}
use Rattle.map_core.specs.PlainMap.{PlainMap}
use Rattle.frame_front.specs.declared.answered.Answered.{Answered}
use Rattle.wire.specs.Frame.{IsPayload, stream_of}
use Rattle.frame_front.specs.Terms.{begun}
use Rattle.frame_front.specs.Session.{Serves}
use Rattle.frame_front.specs.PlainSession.{AskNoCounts, TellNoErrors, answers_to, state_after}
use Rattle.frame_front.specs.Live.{LiveView, LiveAnswers, Feeds, Sends, waiting}

-- what was fed, what was answered, or what was sent
pub data LiveCall : Type 0 where
  Feed : (piece : List ℕ) → LiveCall
  Answer : (result : Answered) → LiveCall
  Send : (bytes : List ℕ) → LiveCall

abbrev pub piece_of : LiveCall → List ℕ
piece_of (Feed piece) = piece
piece_of (Answer result) = []
piece_of (Send bytes) = []

abbrev pub bytes_of : LiveCall → List ℕ
bytes_of (Feed piece) = []
bytes_of (Answer result) = []
bytes_of (Send bytes) = bytes

abbrev pub frames_in : LiveCall → ℕ
frames_in (Feed piece) = 0
frames_in (Answer result) = result.frames
frames_in (Send bytes) = 0

-- how many bytes the frames had that were answered
abbrev pub frame_bytes_in : LiveCall → ℕ
frame_bytes_in (Feed piece) = 0
frame_bytes_in (Answer result) = result.bytes
frame_bytes_in (Send bytes) = 0

-- all that was fed
abbrev pub fed : List LiveCall → List ℕ
fed calls = flat_map piece_of calls

-- all that was sent
abbrev pub sent : List LiveCall → List ℕ
sent calls = flat_map bytes_of calls

-- how many frames were answered
abbrev pub frames_of : List LiveCall → ℕ
frames_of [] = 0
frames_of (call ∷ calls) = frames_in call + frames_of calls

-- how many bytes these had
abbrev pub frame_bytes_of : List LiveCall → ℕ
frame_bytes_of [] = 0
frame_bytes_of (call ∷ calls) = frame_bytes_in call + frame_bytes_of calls

module _ {S : Type 0} (answers : S → Op → Result Reply AskError → S → Type 0) where
  -- a call leads from a session and the map that it asks to these
  abbrev pub Does : LiveCall → LiveView × S → LiveView × S → Type 0
  Does (Feed piece) old new = Feeds piece old.0 new.0 × (new.1 ≡ old.1)
  Does (Answer result) old new = LiveAnswers answers result old.0 new.0 old.1 new.1
  Does (Send bytes) old new = Sends bytes old.0 new.0 × (new.1 ≡ old.1)

  -- the calls do, one after the other
  abbrev pub DoesAll : List LiveCall → LiveView × S → LiveView × S → Type 0
  DoesAll [] old new = new ≡ old
  DoesAll (call ∷ calls) old new = (mid : LiveView × S) × Does call old mid × DoesAll calls mid new

  -- From the start of a session that may only read, or do all, so much was read, so many frames answered and these bytes sent: the frames are the first ones of what was
  -- read, and what was sent and what waits are their texts.
  pub record LiveTable (reads_only : Bool) (read sent_bytes : List ℕ) (count : ℕ) (start : S) (now : LiveView × S) : Type 0 where
    pub payloads : List (List ℕ)
    pub texts : List (List ℕ)
    pub serves : Serves answers read payloads texts now.0.kept (begun reads_only, start) (now.0.terms, now.1)
    pub told : sent_bytes ++ waiting now.0 ≡ concat texts
    pub counted : count ≡ length payloads

  -- The same over a map that shows a plain map: if none asks for counts and no text tells an error, but maybe where a change is turned away, the texts are the plain map's answers, and
  -- the map left is the one that these leave.
  pub record LivePlainTable (reads_only : Bool) (read sent_bytes : List ℕ) (count : ℕ) (live : LiveView) (old new : PlainMap) : Type 0 where
    pub payloads : List (List ℕ)
    pub texts : List (List ℕ)
    pub whole : read ≡ stream_of payloads live.kept
    pub each : AllByRecursion IsPayload payloads
    pub told : sent_bytes ++ waiting live ≡ concat texts
    pub counted : count ≡ length payloads
    pub plain : AskNoCounts payloads → TellNoErrors answers reads_only payloads texts
        → (texts ≡ answers_to (begun reads_only, old) payloads) × (new ≡ (state_after (begun reads_only, old) payloads).1)
