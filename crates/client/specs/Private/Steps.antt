-- What the steps of asking do to the ends.
use Rattle.std.specs.Prelude.{◌≡◌, ◌≢◌, ◌⊎◌, ℕ, ◌+◌, ◌<◌, ◌≤◌, Bool, true, false, List, [], ◌∷◌, ◌++◌, length, Option, Result, Ok, Err, OnOk}
use Rattle.std.specs.List.{AllByRecursion, flat_map, list_any}
use Rattle.std.specs.Io.KnownBytes.{Appends, Consumes, IsAtEnd}
use Rattle.wire.specs.Counted.{faults_in, next_count}
use Rattle.wire.specs.declared.counted.Counted.{Counted}
use Rattle.wire.specs.Frame.{frame}
use Rattle.wire.specs.Output.{WritesFront}
use Rattle.wire.specs.declared.error.FrontError.TheVariants as front
use Rattle.client.specs.declared.client_error.ClientError.TheVariants as client
use Rattle.wire.specs.Encoding.{Gives, EncoderState}
use Rattle.wire.specs.ReplyForm.{Reply, payload_of}
use Rattle.wire.specs.declared.encoder.EncodeError.{EncodeError}
use Rattle.wire.specs.declared.encoder.EncodeError.TheVariants as lines
use Rattle.client.specs.Replies.{is_transient, is_refusal, bundles_after, reply_frames, shown, IsTold}
use Rattle.client.specs.Asking.{Exchange, IsTransient, IsAnswered, Traffic, no_traffic, BreaksOff, IsBroken, HasDone, Ends, lines_of, is_refused, count_after, letter_of}
use Rattle.client.specs.declared.reply.Due.{Due}
use Rattle.client.specs.declared.reply.Due.TheVariants.{AnswerTo, OneOfAll}
use Rattle.client.specs.declared.asking.Asking.{Asking}
use Rattle.client.specs.declared.asking.Form.{Form}
use Rattle.client.specs.declared.fault.AskFault.{AskFault}
use Rattle.client.specs.declared.fault.AskFault.TheVariants.{BadLine, Unreadable, Server, Front}
use Rattle.client.specs.declared.server_streams.ServerStreams.{ServerStreams}

abbrev pub fault_of : EncodeError → AskFault
fault_of (lines.BadLine line) = BadLine line
fault_of (lines.Unreadable line) = Unreadable line
fault_of lines.Memory = Front front.Memory

-- ---- counts of failing calls

-- those of the server's output and input, and of the place that is shown
pub record Faults : Type 0 where
  pub from : ℕ
  pub to : ℕ
  pub out : ℕ

abbrev pub faults_of : {R W O : Type 0} → ServerStreams R W → Counted O → Faults
faults_of server out = record { from = faults_in server.from; to = faults_in server.to; out = faults_in out }

-- No call failed if no fault is told, and otherwise one of the end that is told. Of the lines this is said.
pub record Blames {T : Type 0} (Lines : Type 0) (result : Result T AskFault) (old new : Faults) : Type 0 where
  pub quiet_from : OnOk result (new.from ≡ old.from)
  pub quiet_to : OnOk result (new.to ≡ old.to)
  pub quiet_out : OnOk result (new.out ≡ old.out)
  pub read_fault : result ≡ Err (Server client.ReadFault) → new.from ≡ next_count old.from
  pub write_fault : result ≡ Err (Server client.WriteFault) → new.to ≡ next_count old.to
  pub show_fault : result ≡ Err (Front front.WriteFault) → new.out ≡ next_count old.out
  pub line_fault : result ≡ Err (Front front.ReadFault) → Lines

-- ---- one request

-- one try of a request failed: why, what of it was not sent, and what was read
pub record FailsAsking (request : List ℕ) (Why : List ℕ → List ℕ → Option (List ℕ) → Type 0) (from_old from_new to_old to_new : Option (List ℕ)) : Type 0 where
  pub sent : List ℕ
  pub unsent : List ℕ
  pub torn : List ℕ
  pub split : request ≡ sent ++ unsent
  pub asks : Appends to_old to_new sent
  pub tells : Consumes from_old from_new torn
  pub why : Why unsent torn from_new

-- a request that was asked again after each transient reply, until this one came
pub record AsksUntilTold (retries : ℕ) (request : List ℕ) (reply : Reply) (from_old from_new to_old to_new : Option (List ℕ)) : Type 0 where
  pub transient : List Reply
  pub each : AllByRecursion IsTransient transient
  pub few : length transient ≤ retries
  pub last : is_transient reply ≡ true → length transient ≡ retries
  pub asks : Appends to_old to_new (flat_map (λ reply. request) transient ++ request)
  pub tells : Consumes from_old from_new (reply_frames transient ++ frame (payload_of reply))

-- between two tries
pub record TriesSoFar (retries left : ℕ) (request : List ℕ) (from_old from_new to_old to_new : Option (List ℕ)) : Type 0 where
  pub transient : List Reply
  pub each : AllByRecursion IsTransient transient
  pub count : length transient + left ≡ retries
  pub asks : Appends to_old to_new (flat_map (λ reply. request) transient)
  pub tells : Consumes from_old from_new (reply_frames transient)

-- ---- what is shown

-- a reply that may come there is shown
pub record Shows (form : Form) (due : Due) (reply : Reply) (refused : Bool) (bundles : ℕ) (out_old out_new : Option (List ℕ)) : Type 0 where
  pub told : IsTold form due reply
  pub shows : Appends out_old out_new (shown form reply)
  pub refused_is : refused ≡ is_refusal reply
  pub bundles_is : bundles ≡ bundles_after reply

-- a request is asked until it is told more than to wait, and the reply is shown
pub record AsksFirst (how : Asking) (request : List ℕ) (refused : Bool) (bundles : ℕ) (from_old from_new to_old to_new out_old out_new : Option (List ℕ)) : Type 0 where
  pub reply : Reply
  pub until : AsksUntilTold how.retries request reply from_old from_new to_old to_new
  pub first : Shows how.form (AnswerTo (letter_of request)) reply refused bundles out_old out_new

-- a reply is not shown: it must not be, or the place failed
abbrev pub NotShown : Form → Reply → Type 0 → AskFault → Option (List ℕ) → Option (List ℕ) → Type 0
NotShown form reply May fault out_old out_new =
    ((fault ≡ Server client.BadReply) × (out_new ≡ out_old) × (May → ⊥))
    ⊎ ((fault ≡ Front front.WriteFault) × May × WritesFront out_old out_new (shown form reply))

-- so many bundles were read and shown
pub record ShowsOthers (form : Form) (count : ℕ) (from_old from_new out_old out_new : Option (List ℕ)) : Type 0 where
  pub others : List Reply
  pub long : length others ≡ count
  pub each : AllByRecursion (IsTold form OneOfAll) others
  pub tells : Consumes from_old from_new (reply_frames others)
  pub shows : Appends out_old out_new (flat_map (shown form) others)

-- not all of so many bundles are shown, behind whatever reply said how many
pub record BreaksOthers (form : Form) (fault : AskFault) (count : ℕ) (from_old from_new out_old out_new : Option (List ℕ)) : Type 0 where
  pub others : List Reply
  pub torn : List ℕ
  pub showed : List ℕ
  pub hidden : List ℕ
  pub few : length others ≤ count
  pub each : AllByRecursion (IsTold form OneOfAll) others
  pub split : flat_map (shown form) others ≡ showed ++ hidden
  pub tells : Consumes from_old from_new (reply_frames others ++ torn)
  pub shows : Appends out_old out_new showed
  pub why : (request : List ℕ) (first : Reply) → count ≡ bundles_after first → BreaksOff form request fault (first ∷ others) torn [] hidden from_new

-- ---- one line

pub record AsksOne (how : Asking) (request : List ℕ) (refused : Bool) (from_old from_new to_old to_new out_old out_new : Option (List ℕ)) : Type 0 where
  pub transient : List Reply
  pub replies : List Reply
  pub taken : IsAnswered how request transient replies
  pub asks : Appends to_old to_new (flat_map (λ reply. request) transient ++ request)
  pub tells : Consumes from_old from_new (reply_frames (transient ++ replies))
  pub shows : Appends out_old out_new (flat_map (shown how.form) replies)
  pub refused_is : refused ≡ list_any is_refusal replies

pub record BreaksOne (how : Asking) (fault : AskFault) (request : List ℕ) (from_old from_new to_old to_new out_old out_new : Option (List ℕ)) : Type 0 where
  pub done : Traffic
  pub some : request ≢ []
  pub asks : Appends to_old to_new done.asked
  pub tells : Consumes from_old from_new done.told
  pub shows : Appends out_old out_new done.shown
  pub broken : IsBroken how fault request done from_new

-- ---- the stream

-- a piece of the lines is read and kept, or the lines are at their end
abbrev pub ReadsMore : Result Bool AskFault → EncoderState → EncoderState → Option (List ℕ) → Option (List ℕ) → Type 0
ReadsMore (Ok true) old new lines_old lines_new =
    (piece : List ℕ) × (0 < length piece) × (new.kept ≡ old.kept ++ piece) × (new.lines ≡ old.lines) × Consumes lines_old lines_new piece
ReadsMore (Ok false) old new lines_old lines_new = (new ≡ old) × Consumes lines_old lines_new [] × IsAtEnd lines_new
ReadsMore (Err fault) old new lines_old lines_new =
    ((fault ≡ Front front.ReadFault) × Consumes lines_old lines_new [])
    ⊎ ((fault ≡ Front front.Memory) × (piece : List ℕ) × Consumes lines_old lines_new piece)

-- these exchanges are done; of the lines that were read, these bytes are kept
pub record StreamSoFar (gives : Gives) (how : Asking) (old new : Ends) (state : EncoderState) (refused : Bool) (turns : ℕ) : Type 0 where
  pub items : List Exchange
  pub done : HasDone gives how items state.kept no_traffic old new
  pub refused_is : refused ≡ list_any is_refused items
  pub lines_are : state.lines ≡ count_after 0 items
  pub each_turn : turns ≤ length items + length (lines_of items ++ state.kept)
