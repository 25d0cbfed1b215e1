-- What reading does to a reader.
use Rattle.std.specs.Prelude.{◌≡◌, ℕ, ◌<◌, List, length, Option, Result, Ok, Err}
use Rattle.std.specs.Io.KnownBytes.{Consumes, IsAtEnd}
use Rattle.map_core.specs.declared.op.Op.{Op}
use Rattle.wire.specs.Output.{End}
use Rattle.client.specs.Answer.{Answer, MayAnswer, IsValidAnswer}
use Rattle.client.specs.Client.{Breaks}
use Rattle.client.specs.Reading.{CountsFault}
use Rattle.client.specs.declared.client_error.ClientError.{ClientError}
use Rattle.client.specs.declared.client_error.ClientError.TheVariants.{Truncated, ReadFault}

-- Why fewer bytes are read than so many, and what the reader has left then.
abbrev pub StopsShort : ℕ → ClientError → List ℕ → Option (List ℕ) → Type 0
StopsShort size Truncated read left = (length read < size) × IsAtEnd left
StopsShort size ReadFault read left = length read < size
StopsShort size error read left = ⊥

-- These bytes are read, and no call fails.
pub record ReadsWhole (old new : End) (bytes : List ℕ) : Type 0 where
  pub consumes : Consumes old.bytes new.bytes bytes
  pub quiet : new.faults ≡ old.faults

-- Why no more is read than these bytes, and what the reason says of them and of what is left.
pub record StopsReading (Says : ClientError → List ℕ → Option (List ℕ) → Type 0) (why : ClientError) (old new : End) : Type 0 where
  pub read : List ℕ
  pub consumes : Consumes old.bytes new.bytes read
  pub says : Says why read new.bytes
  pub counted : CountsFault why old.faults new.faults

-- The bytes of an answer that the operation may have are read, or others.
abbrev pub ReadsReply : Op → (Answer → List ℕ) → Result Answer ClientError → End → End → Type 0
ReadsReply op bytes_for (Ok answer) old new = MayAnswer op answer × IsValidAnswer answer × ReadsWhole old new (bytes_for answer)
ReadsReply op bytes_for (Err why) old new = StopsReading (Breaks op bytes_for) why old new
