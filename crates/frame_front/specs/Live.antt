-- A session without ends: what contracts see of it, and what its calls do.
use Rattle.std.specs.Prelude.{◌≡◌, ◌≢◌, ℕ, ◌+◌, ◌-◌, ◌<◌, ◌≤◌, ◌⊎◌, List, [], ◌∷◌, ◌++◌, length, Result, Ok, Err, Bool, true, false}
use Rattle.std.specs.List.{concat}
use Rattle.map_core.specs.declared.op.Op.{Op}
use Rattle.map_core.specs.declared.reply.Reply.{Reply}
use Rattle.map_core.specs.declared.reply.AskError.{AskError}
use Rattle.wire.specs.declared.error.FrontError.{FrontError}
use Rattle.wire.specs.declared.error.FrontError.TheVariants.{BadLength, Truncated, Memory}
use Rattle.frame_front.specs.declared.answered.Wants.{Wants}
use Rattle.frame_front.specs.declared.answered.Wants.TheVariants.{Read, Write}
use Rattle.frame_front.specs.declared.answered.Answered.{Answered}
use Rattle.wire.specs.Frame.{IsUnfinished, IsBadLength, most_payload}
use Rattle.wire.specs.Decoder.{BeginsWithFrame}
use Rattle.frame_front.specs.declared.terms.Terms.{Terms}
use Rattle.frame_front.specs.Terms.{begun}
use Rattle.frame_front.specs.Session.{Serves}

-- A session between two calls: the bytes of its input that belong to no frame answered, its terms, the bytes of
-- replies that are ready to be sent, and those of the last reply that come after them.
pub record LiveView : Type 0 where
  pub kept : List ℕ
  pub terms : Terms
  pub ready : List ℕ
  pub later : List ℕ

-- a session of these parts
abbrev pub live_view : List ℕ → Terms → List ℕ → List ℕ → LiveView
live_view kept terms ready later = record { kept = kept; terms = terms; ready = ready; later = later }

-- the bytes of replies that wait
abbrev pub waiting : LiveView → List ℕ
waiting live = live.ready ++ live.later

-- nothing has come yet to a session that may only read, or do all
abbrev pub live_start : Bool → LiveView
live_start reads_only = live_view [] (begun reads_only) [] []

-- the most bytes of input that are kept: a frame, and a piece of 4096 bytes
abbrev pub most_kept : ℕ
most_kept = 4 + most_payload + 4096

-- how many bytes of input there is room for
abbrev pub room_of : LiveView → ℕ
room_of live = most_kept - length live.kept

-- with so many bytes ready, no further frame is answered
abbrev pub reply_limit : ℕ
reply_limit = 196608

-- the most bytes of a reply that are stored at once: a length, i, the longest name and the longest text
abbrev pub most_part : ℕ
most_part = 4 + 2 + 255 + 1048576

-- the most bytes that are ready
abbrev pub most_ready : ℕ
most_ready = reply_limit + most_part

-- the most frames that one call answers, since each reply has at least 5 bytes
abbrev pub most_frames : ℕ
most_frames = 39322

-- a piece of the input is kept
abbrev pub Feeds : List ℕ → LiveView → LiveView → Type 0
Feeds piece old new = new ≡ live_view (old.kept ++ piece) old.terms old.ready old.later

-- a front of what is ready is sent
abbrev pub Sends : List ℕ → LiveView → LiveView → Type 0
Sends bytes old new = (old.ready ≡ bytes ++ new.ready) × (new.kept ≡ old.kept) × (new.terms ≡ old.terms) × (new.later ≡ old.later)

-- why no further frame is answered
abbrev pub StopsAt : Result Wants FrontError → LiveView → Type 0
StopsAt (Ok Read) new = IsUnfinished new.kept × (new.later ≡ [])
StopsAt (Ok Write) new = reply_limit ≤ length new.ready
StopsAt (Err BadLength) new = IsBadLength new.kept × (new.later ≡ [])
StopsAt (Err Memory) new = new.later ≢ []
StopsAt (Err error) new = ⊥

-- Each of these texts came while fewer bytes waited than the limit, so only the last may go beyond it.
abbrev pub ComeBelowLimit : List ℕ → List (List ℕ) → Type 0
ComeBelowLimit waited texts = (texts ≡ []) ⊎ ((before : List (List ℕ)) × (last : List ℕ)
    × (texts ≡ before ++ last ∷ []) × (length (waited ++ concat before) < reply_limit))

-- Whole frames at the front of what was kept were answered, in order, and their texts wait after what waited.
pub record LiveAnswers {S : Type 0} (answers : S → Op → Result Reply AskError → S → Type 0) (result : Answered)
    (old new : LiveView) (map_old map_new : S) : Type 0 where
  pub payloads : List (List ℕ)
  pub texts : List (List ℕ)
  pub serves : Serves answers old.kept payloads texts new.kept (old.terms, map_old) (new.terms, map_new)
  pub waits : waiting new ≡ waiting old ++ concat texts
  pub few : ComeBelowLimit (waiting old) texts
  pub counted : result.frames ≡ length payloads
  pub bytes : result.bytes ≡ length old.kept - length new.kept
  pub stops : StopsAt result.next new

-- whether the input may end with these bytes kept, or still has frames to be answered
abbrev pub FinishesAt : Result Bool FrontError → List ℕ → Type 0
FinishesAt (Ok true) kept = kept ≡ []
FinishesAt (Ok false) kept = BeginsWithFrame kept
FinishesAt (Err BadLength) kept = IsBadLength kept
FinishesAt (Err Truncated) kept = IsUnfinished kept × (kept ≢ [])
FinishesAt (Err error) kept = ⊥
