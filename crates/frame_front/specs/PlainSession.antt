-- What a session answers over a map that can be asked and shows a plain map.
use Rattle.std.specs.Prelude.{◌≡◌, ◌⊎◌, ℕ, zero, suc, ◌-◌, List, [], ◌∷◌, ◌++◌, length, Result, Ok, Err, Option, Bool, false, if◌then◌else◌}
use Rattle.std.specs.List.{AllByRecursion, concat}
use Rattle.std.specs.Io.KnownBytes.{Appends, Consumes}
use Rattle.map_core.specs.declared.op.Op.{Op}
use Rattle.map_core.specs.declared.reply.Reply.{Reply}
use Rattle.map_core.specs.declared.reply.AskError.{AskError}
use Rattle.map_core.specs.PlainMap.{PlainMap, ask}
use Rattle.wire.specs.declared.error.FrontError.{FrontError}
use Rattle.wire.specs.declared.error.FrontError.TheVariants.{WriteFault}
use Rattle.wire.specs.declared.version.Version.{Version}
use Rattle.wire.specs.declared.judge.Judged.{Judged}
use Rattle.wire.specs.declared.judge.Judged.TheVariants.{Ask, SetVersion, TellCounts}
use Rattle.wire.specs.declared.refusal.Refusal.{Refusal}
use Rattle.wire.specs.Frame.{stream_of, IsPayload}
use Rattle.wire.specs.Judge.{request_of}
use Rattle.wire.specs.Answers.{answer_frames, reply_frames, memory_frame, refusal_frame, version_frame, counts_frame}
use Rattle.frame_front.specs.Terms.{begun, is_turned_away}
use Rattle.frame_front.specs.Session.{SessionState, EndsAt, shut_frame}
use Rattle.frame_front.specs.Transcript.{EndsInput, UsesTurns, IsReadIn}

-- the answer to a payload that reads so; a plain map has no counts
abbrev pub text_for : SessionState PlainMap → Result Judged Refusal → List ℕ
text_for state (Err refusal) = refusal_frame refusal
text_for state (Ok (SetVersion version)) = version_frame version
text_for state (Ok TellCounts) = counts_frame []
text_for state (Ok (Ask op)) = reply_frames (ask state.1 op).reply

-- and the state after it
abbrev pub state_for : SessionState PlainMap → Result Judged Refusal → SessionState PlainMap
state_for state (Err refusal) = state
state_for state (Ok (SetVersion version)) = (record state.0 { version = version }, state.1)
state_for state (Ok TellCounts) = state
state_for state (Ok (Ask op)) = (state.0, (ask state.1 op).map)

-- the answer to a payload, which may be turned away
abbrev pub text_to : SessionState PlainMap → List ℕ → List ℕ
text_to state payload =
    if is_turned_away state.0.reads_only payload then shut_frame else text_for state (request_of state.0.version payload)

-- and the state after it
abbrev pub state_to : SessionState PlainMap → List ℕ → SessionState PlainMap
state_to state payload =
    if is_turned_away state.0.reads_only payload then state else state_for state (request_of state.0.version payload)

-- the answers to these payloads, one after the other
abbrev pub answers_to : SessionState PlainMap → List (List ℕ) → List (List ℕ)
answers_to state [] = []
answers_to state (payload ∷ payloads) = text_to state payload ∷ answers_to (state_to state payload) payloads

-- and the state after them
abbrev pub state_after : SessionState PlainMap → List (List ℕ) → SessionState PlainMap
state_after state [] = state
state_after state (payload ∷ payloads) = state_after (state_to state payload) payloads

-- none of these payloads asks for counts, in whatever version
abbrev pub AskNoCounts : List (List ℕ) → Type 0
AskNoCounts payloads = AllByRecursion (λ payload. (version : Version) → ¬ (request_of version payload ≡ Ok TellCounts)) payloads

-- of texts that follow one another, those of which a byte is among the first n
abbrev pub texts_within : ℕ → List (List ℕ) → List (List ℕ)
texts_within zero texts = []
texts_within (suc n) [] = []
texts_within (suc n) (text ∷ texts) = text ∷ texts_within (suc n - length text) texts

-- the texts are written whole; if the writer failed, a front of them
abbrev pub WritesTexts : Result ℕ FrontError → List (List ℕ) → List ℕ → Type 0
WritesTexts (Err WriteFault) texts written = (missing : List ℕ) × (concat texts ≡ written ++ missing)
WritesTexts ended texts written = written ≡ concat texts

module _ {S : Type 0} (answers : S → Op → Result Reply AskError → S → Type 0) where
  -- whoever is asked may give this error
  abbrev pub MayFail : AskError → Type 0
  MayFail error = (old : S) × (op : Op) × (new : S) × answers old op (Err error) new

  -- a reply says that memory ran out, or that whoever is asked gave an error
  abbrev pub TellsError : List ℕ → Type 0
  TellsError text = (text ≡ memory_frame) ⊎ ((error : AskError) × MayFail error × (text ≡ answer_frames (Err error)))

  -- None of these texts tells an error, but maybe those to payloads that are turned away.
  abbrev pub TellNoErrors : Bool → List (List ℕ) → List (List ℕ) → Type 0
  TellNoErrors reads_only [] texts = Unit {0}
  TellNoErrors reads_only (payload ∷ payloads) [] = Unit {0}
  TellNoErrors reads_only (payload ∷ payloads) (text ∷ texts) =
      (is_turned_away reads_only payload ≡ false → ¬ (TellsError text)) × TellNoErrors reads_only payloads texts

  -- A session over a map that shows a plain map. The payloads are a prefix of the frames read, and the texts are the
  -- replies to them. Where none asks for counts and no text that is begun tells an error, the texts are the plain map's
  -- answers, and the map left is the one that these leave.
  pub record PlainTranscript (result : Result ℕ FrontError) (turns : ℕ)
      (left_old left_new held_old held_new : Option (List ℕ)) (old new : PlainMap) : Type 0 where
    pub read : List ℕ
    pub written : List ℕ
    pub consumes : Consumes left_old left_new read
    pub appends : Appends held_old held_new written
    pub payloads : List (List ℕ)
    pub texts : List (List ℕ)
    pub rest : List ℕ
    pub whole : read ≡ stream_of payloads rest
    pub each : AllByRecursion IsPayload payloads
    pub ends : EndsAt result (length payloads) rest
    pub few_read : IsReadIn turns read
    pub used : UsesTurns result turns (length read)
    pub ended : EndsInput result left_new
    pub stands : WritesTexts result texts written
    pub told : AskNoCounts payloads → AllByRecursion (λ text. ¬ (TellsError text)) (texts_within (length written) texts)
        → (texts ≡ answers_to (begun false, old) payloads) × (new ≡ (state_after (begun false, old) payloads).1)
