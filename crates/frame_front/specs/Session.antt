-- What a session may answer, over any map that can be asked.
use Rattle.std.specs.Prelude.{◌≡◌, ◌≢◌, ℕ, List, [], ◌∷◌, ◌++◌, length, Result, Ok, Err, ◌⊎◌, ◌≤◌, Bool, true, false}
use Rattle.std.specs.List.{concat, AllByRecursion}
use Rattle.map_core.specs.declared.op.Op.{Op}
use Rattle.map_core.specs.declared.reply.Reply.{Reply}
use Rattle.map_core.specs.declared.reply.AskError.{AskError}
use Rattle.map_core.specs.declared.reply.AskError.TheVariants.{GateShut}
use Rattle.wire.specs.declared.error.FrontError.{FrontError}
use Rattle.wire.specs.declared.error.FrontError.TheVariants.{BadLength, Truncated, ReadFault, WriteFault, TurnsUsed, Memory}
use Rattle.wire.specs.declared.judge.Judged.{Judged}
use Rattle.wire.specs.declared.judge.Judged.TheVariants.{Ask, SetVersion, TellCounts}
use Rattle.wire.specs.declared.refusal.Refusal.{Refusal}
use Rattle.wire.specs.Frame.{stream_of, IsPayload, IsUnfinished, IsBadLength}
use Rattle.wire.specs.Judge.{request_of}
use Rattle.wire.specs.RequestForm.{IsOneLine}
use Rattle.wire.specs.Answers.{answer_frames, refusal_frame, version_frame, counts_frame, memory_frame, is_error_reply, GoesOut}
use Rattle.frame_front.specs.declared.terms.Terms.{Terms}
use Rattle.frame_front.specs.Terms.{is_turned_away}

-- the state of a session: its terms, and the state of the map that it asks
abbrev pub SessionState : Type 0 → Type 0
SessionState S = Terms × S

-- the reply to a payload that is turned away: that the gate is shut
abbrev pub shut_frame : List ℕ
shut_frame = answer_frames (Err GateShut)

module _ {S : Type 0} (answers : S → Op → Result Reply AskError → S → Type 0) where
  -- A payload that reads so may be answered by this text, when memory suffices to read it.
  abbrev pub AnswersRequest : Result Judged Refusal → SessionState S → List ℕ → SessionState S → Type 0
  -- a refusal asks nothing
  AnswersRequest (Err refusal) old text new = (text ≡ refusal_frame refusal) × (new ≡ old)
  -- a version is set, and nothing is asked
  AnswersRequest (Ok (SetVersion version)) old text new = (text ≡ version_frame version) × (new ≡ (record old.0 { version = version }, old.1))
  -- counts are told, in one line, and nothing is asked
  AnswersRequest (Ok TellCounts) old text new = (counts : List ℕ) × IsOneLine counts × (text ≡ counts_frame counts) × (new ≡ old)
  -- an operation is asked once, and one answer goes out
  AnswersRequest (Ok (Ask op)) old text new =
      (answer : Result Reply AskError) × answers old.1 op answer new.1 × GoesOut answer text × (new.0 ≡ old.0)

  -- The same, whether memory suffices or not.
  abbrev pub AnswersRead : Result Judged Refusal → SessionState S → List ℕ → SessionState S → Type 0
  AnswersRead read old text new = AnswersRequest read old text new ⊎ ((text ≡ memory_frame) × (new ≡ old))

  -- A payload that is turned away, or is not, may be answered by this text. To be turned away takes no memory, and asks nothing.
  abbrev pub AnswersUnless : Bool → SessionState S → List ℕ → List ℕ → SessionState S → Type 0
  AnswersUnless true old payload text new = (text ≡ shut_frame) × (new ≡ old)
  AnswersUnless false old payload text new = AnswersRead (request_of old.0.version payload) old text new

  -- From the old state the payload may be answered by this text, which leaves the new one.
  abbrev pub Answers : SessionState S → List ℕ → List ℕ → SessionState S → Type 0
  Answers old payload text new = AnswersUnless (is_turned_away old.0.reads_only payload) old payload text new

  -- The payloads may be answered by these texts, one after the other.
  abbrev pub AnswersAll : SessionState S → List (List ℕ) → List (List ℕ) → SessionState S → Type 0
  AnswersAll old [] [] new = new ≡ old
  AnswersAll old (payload ∷ payloads) (text ∷ texts) new =
      (mid : SessionState S) × Answers old payload text mid × AnswersAll mid payloads texts new
  AnswersAll old [] (text ∷ texts) new = ⊥
  AnswersAll old (payload ∷ payloads) [] new = ⊥

  -- Of the bytes read, these payloads were answered, by these texts, and this rest was not.
  pub record Serves (read : List ℕ) (payloads texts : List (List ℕ)) (rest : List ℕ) (old new : SessionState S) : Type 0 where
    pub whole : read ≡ stream_of payloads rest
    pub each : AllByRecursion IsPayload payloads
    pub answered : AnswersAll old payloads texts new

-- how far a session is when it ends, after so many answered frames
abbrev pub EndsAt : Result ℕ FrontError → ℕ → List ℕ → Type 0
EndsAt (Ok count) answered rest = (count ≡ answered) × (rest ≡ [])
EndsAt (Err BadLength) answered rest = IsBadLength rest
EndsAt (Err Truncated) answered rest = IsUnfinished rest × (rest ≢ [])
EndsAt (Err ReadFault) answered rest = IsUnfinished rest
EndsAt (Err TurnsUsed) answered rest = IsUnfinished rest
EndsAt (Err WriteFault) answered rest = Unit {0}
EndsAt (Err Memory) answered rest = Unit {0}

-- The writer failed. Some texts stand whole; of the others a front is written: those gathered since the last write,
-- none of which says that whoever was asked gave an error, and at most one more.
pub record WritesCut (texts : List (List ℕ)) (written : List ℕ) : Type 0 where
  pub before : List (List ℕ)
  pub gathered : List (List ℕ)
  pub alone : List (List ℕ)
  pub front : List ℕ
  pub missing : List ℕ
  pub texts_are : texts ≡ (before ++ gathered) ++ alone
  pub written_is : written ≡ concat before ++ front
  pub cut : concat (gathered ++ alone) ≡ front ++ missing
  pub no_errors : AllByRecursion (λ text. is_error_reply text ≡ false) gathered
  pub one : length alone ≤ 1

-- the texts are written whole; if the writer failed, a front of them
abbrev pub Writes : Result ℕ FrontError → List (List ℕ) → List ℕ → Type 0
Writes (Err WriteFault) texts written = WritesCut texts written
Writes ended texts written = written ≡ concat texts

-- A session that ended so has read and written these bytes.
pub record Session {S : Type 0} (answers : S → Op → Result Reply AskError → S → Type 0) (result : Result ℕ FrontError)
    (old new : SessionState S) (read written : List ℕ) : Type 0 where
  pub payloads : List (List ℕ)
  pub texts : List (List ℕ)
  pub rest : List ℕ
  pub serves : Serves answers read payloads texts rest old new
  pub ends : EndsAt result (length payloads) rest
  pub writes : Writes result texts written
