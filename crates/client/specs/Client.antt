-- What a client writes and reads when it is asked.
use Rattle.std.specs.Prelude.{◌≡◌, ◌≢◌, ◌⊎◌, ℕ, List, ◌++◌, true, false, Option, Some, None, Result, Ok, Err, []}
use Rattle.std.specs.Io.KnownBytes.{Appends, Consumes, IsAtEnd}
use Rattle.wire.specs.Counted.{end_in, faults_in, next_count}
use Rattle.map_core.specs.declared.op.Op.{Op}
use Rattle.map_core.specs.declared.reply.AskError.TheVariants as error
use Rattle.wire.specs.declared.version.Version.{Version}
use Rattle.client.specs.declared.client_error.ClientError.{ClientError}
use Rattle.client.specs.declared.client_error.ClientError.TheVariants.{Memory, BadLength, BadReply, Truncated, ReadFault, WriteFault}
use Rattle.wire.specs.Frame.{HasFrames, IsBadLength}
use Rattle.wire.specs.Answers.{answer_frames, version_frame}
use Rattle.wire.specs.Output.{WritesFront}
use Rattle.client.specs.Request.{request_bytes, is_written, version_for}
use Rattle.client.specs.Reading.{CountsFault}
use Rattle.client.specs.Answer.{Answer, MayAnswer, IsValidAnswer}
use Rattle.client.specs.declared.server_streams.ServerStreams.{ServerStreams}

-- the reply to the request that sets a version
abbrev pub spoken_bytes : Option Version → List ℕ
spoken_bytes None = []
spoken_bytes (Some version) = version_frame version

-- it comes before the one to the operation's own request
abbrev pub reply_preface : Op → List ℕ
reply_preface op = spoken_bytes (version_for op)

-- what is read if this is the answer
abbrev pub reply_bytes : Op → Answer → List ℕ
reply_bytes op answer = reply_preface op ++ answer_frames answer

-- ---- what was read is not a reply

module _ (op : Op) (bytes_for : Answer → List ℕ) where
  -- no answer that the operation may have is read so
  abbrev pub NoReply : List ℕ → Type 0
  NoReply read = (answer : Answer) → MayAnswer op answer → IsValidAnswer answer → bytes_for answer ≢ read

  -- nor is it with anything behind it
  abbrev pub BeginsNoReply : List ℕ → Type 0
  BeginsNoReply read = (rest : List ℕ) → NoReply (read ++ rest)

  -- What was read if a client ends for this reason, and what its reader has left then.
  abbrev pub Breaks : ClientError → List ℕ → Option (List ℕ) → Type 0
  Breaks Truncated read left = NoReply read × IsAtEnd left
  Breaks ReadFault read left = NoReply read
  Breaks BadReply read left = BeginsNoReply read
  Breaks BadLength read left = (payloads : List (List ℕ)) × (rest : List ℕ) × HasFrames read payloads rest × IsBadLength rest
  Breaks Memory read left = Unit {0}
  Breaks WriteFault read left = ⊥

-- ---- an exchange

-- The ends of a client: what its reader has left and its writer holds, if that is known, and how often each failed.
pub record Ends : Type 0 where
  pub left : Option (List ℕ)
  pub held : Option (List ℕ)
  pub read_faults : ℕ
  pub write_faults : ℕ

abbrev pub ends : Option (List ℕ) → Option (List ℕ) → ℕ → ℕ → Ends
ends left held read_faults write_faults = record { left = left; held = held; read_faults = read_faults; write_faults = write_faults }

abbrev pub ends_of : {R W : Type 0} → (R → Option (List ℕ)) → (W → Option (List ℕ)) → ServerStreams R W → Ends
ends_of left_of held_of server = ends (left_of (end_in server.from)) (held_of (end_in server.to)) (faults_in server.from) (faults_in server.to)

-- The request is written, and the reply read, and neither end failed.
pub record IsAnswered (op : Op) (answer : Answer) (old new : Ends) : Type 0 where
  pub written : Appends old.held new.held (request_bytes op)
  pub read : Consumes old.left new.left (reply_bytes op answer)
  pub may : MayAnswer op answer
  pub valid : IsValidAnswer answer
  pub quiet_reader : new.read_faults ≡ old.read_faults
  pub quiet_writer : new.write_faults ≡ old.write_faults

-- The writer failed: a front of the request is written, and nothing read.
pub record IsUnsent (op : Op) (old new : Ends) : Type 0 where
  pub written : WritesFront old.held new.held (request_bytes op)
  pub unread : new.left ≡ old.left
  pub quiet_reader : new.read_faults ≡ old.read_faults
  pub fault : new.write_faults ≡ next_count old.write_faults

-- The request is written, and what was read is not a reply.
pub record IsBroken (op : Op) (why : ClientError) (old new : Ends) : Type 0 where
  pub read : List ℕ
  pub written : Appends old.held new.held (request_bytes op)
  pub consumes : Consumes old.left new.left read
  pub breaks : Breaks op (reply_bytes op) why read new.left
  pub counted : CountsFault why old.read_faults new.read_faults
  pub quiet_writer : new.write_faults ≡ old.write_faults

-- A request is written and its reply read, or the reason why not.
abbrev pub Exchange : Op → Result Answer ClientError → Ends → Ends → Type 0
Exchange op (Ok answer) old new = IsAnswered op answer old new
Exchange op (Err WriteFault) old new = IsUnsent op old new
Exchange op (Err why) old new = IsBroken op why old new

-- ---- a client

-- A client as contracts see it: its ends, and why it ended, if it did.
pub record ClientState : Type 0 where
  pub ends : Ends
  pub ended : Option ClientError

-- Nothing is written or read: the client had ended, or the request is too long to be written, or there was no memory to begin.
abbrev pub IsIdle : ClientState → Op → Answer → ClientState → Type 0
IsIdle old op answer new = (new ≡ old)
    × (((answer ≡ Err error.GateShut) × ((old.ended ≢ None) ⊎ (is_written op ≡ false))) ⊎ ((answer ≡ Err error.Memory) × (old.ended ≡ None)))

-- the reply is the answer
abbrev pub IsAsked : Option ClientError → Op → Answer → Ends → Ends → Type 0
IsAsked None op answer old new = Exchange op (Ok answer) old new
IsAsked (Some why) op answer old new = (answer ≡ Err error.GateShut) × Exchange op (Err why) old new

-- What a client may answer. If it hadn't ended, it wrote the request, and what it read is the answer's reply; or it has
-- ended now, for this reason. If it had, it does nothing.
abbrev pub Asks : ClientState → Op → Answer → ClientState → Type 0
Asks old op answer new =
    IsIdle old op answer new ⊎ ((old.ended ≡ None) × (is_written op ≡ true) × IsAsked new.ended op answer old.ends new.ends)
