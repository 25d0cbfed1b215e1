-- Whoever is asked to set the bundles that were read. None of them shows a map, since others may change it.
use Rattle.std.specs.Prelude.{◌≡◌, ◌⊎◌, ℕ, List, length, ◌==◌, if◌then◌else◌, Bool, true, false, not, Option, None, Some, Result, Ok, Err}
use Rattle.std.specs.Io.KnownBytes.{Appends}
use Rattle.spiffe_doc.specs.Authority.{BundleValue}
use Rattle.map_core.specs.Name.{Name}
use Rattle.map_core.specs.declared.op.Op.{Op}
use Rattle.map_core.specs.declared.op.Op.TheVariants.{Set, Get}
use Rattle.map_core.specs.declared.reply.Reply.{Reply}
use Rattle.map_core.specs.declared.reply.Reply.TheVariants.{Stored, Found}
use Rattle.map_core.specs.declared.reply.AskError.{AskError}
use Rattle.map_core.specs.declared.reply.AskError.TheVariants.{GateShut, Memory}
use Rattle.client.specs.Request.{request_bytes}
use Rattle.client.specs.Client.{ClientState, Asks}
use Rattle.client.specs.declared.client_error.ClientError.{ClientError}
use Rattle.wire.specs.Output.{WritesFront}
use Rattle.wire.specs.declared.error.FrontError.TheVariants.{WriteFault}
use Rattle.refresh.specs.declared.error.RefreshError.{RefreshError}
use Rattle.refresh.specs.declared.error.RefreshError.TheVariants.{Front, Client}

abbrev pub is_empty : BundleValue → Bool
is_empty bundle = length bundle.authorities == 0

-- a Set of a bundle with no authorities
abbrev pub sets_none : Op → Bool
sets_none (Set d b) = is_empty b
sets_none op = false

-- the domain of such a Set
abbrev pub emptied_by : Op → Option Name
emptied_by (Set d b) = if is_empty b then Some d else None
emptied_by op = None

-- ---- a sender

-- what its writer holds, if that is known, whether it has failed, and whether the last bundle that it wrote has no authorities
pub record SenderState : Type 0 where
  pub held : Option (List ℕ)
  pub has_failed : Bool
  pub has_emptied : Bool

abbrev pub is_set : Op → Bool
is_set (Set d b) = true
is_set op = false

-- nothing is written, since the writer has failed before or the operation is not a Set
abbrev pub SendsNothing : SenderState → Op → SenderState → Type 0
SendsNothing old op new = (new ≡ old) × ((old.has_failed ≡ true) ⊎ (is_set op ≡ false))

-- the writer fails, and a front of the request is written
pub record SendsFront (old : SenderState) (op : Op) (new : SenderState) : Type 0 where
  pub worked : old.has_failed ≡ false
  pub failed : new.has_failed ≡ true
  pub same : new.has_emptied ≡ old.has_emptied
  pub front : WritesFront old.held new.held (request_bytes op)

-- the request of a Set is written whole
pub record SendsSet (old : SenderState) (op : Op) (new : SenderState) : Type 0 where
  pub sets : is_set op ≡ true
  pub worked : old.has_failed ≡ false
  pub works : new.has_failed ≡ false
  pub empties : new.has_emptied ≡ sets_none op
  pub whole : Appends old.held new.held (request_bytes op)

-- The request of a Set is written, whole if the answer is Stored.
abbrev pub Sends : SenderState → Op → Result Reply AskError → SenderState → Type 0
Sends old op (Ok reply) new = (reply ≡ Stored) × SendsSet old op new
Sends old op (Err error) new = (error ≡ GateShut) × (SendsNothing old op new ⊎ SendsFront old op new)

-- once its writer has failed, nothing more can be asked
abbrev pub sender_fault : Bool → Option RefreshError
sender_fault true = Some (Front WriteFault)
sender_fault false = None

-- ---- a server

-- the client that asks it, and whether the last Set took all its authorities from a domain that had some
pub record ServerState : Type 0 where
  pub client : ClientState
  pub has_emptied : Bool

-- the reply is a bundle with authorities
abbrev pub has_authorities : Reply → Bool
has_authorities (Found b) = not (is_empty b)
has_authorities reply = false

-- Whether authorities stand in a domain is asked of it; the error is that of this question, or there is no memory for it.
abbrev pub LooksUp : Option Name → ClientState → Result Bool AskError → ClientState → Type 0
LooksUp None old answer new = (answer ≡ Ok false) × (new ≡ old)
LooksUp (Some d) old (Ok empties) new = (found : Reply) × Asks old (Get d) (Ok found) new × (empties ≡ has_authorities found)
LooksUp (Some d) old (Err error) new = ((error ≡ Memory) × (new ≡ old)) ⊎ Asks old (Get d) (Err error) new

-- Before a bundle with no authorities is set, it is asked whether its domain has some; before all else nothing is asked.
abbrev pub Looks : ClientState → Op → Result Bool AskError → ClientState → Type 0
Looks old op answer new = LooksUp (emptied_by op) old answer new

-- A server is asked the operation, after that question, unless the question was answered by an error.
abbrev pub AsksServer : ServerState → Op → Result Reply AskError → ServerState → Type 0
AsksServer old op answer new =
    ((mid : ClientState) × Looks old.client op (Ok new.has_emptied) mid × Asks mid op answer new.client)
    ⊎ ((error : AskError) × Looks old.client op (Err error) new.client × (answer ≡ Err error) × (new.has_emptied ≡ old.has_emptied))

-- once its client has ended, nothing more can be asked
abbrev pub server_fault : Option ClientError → Option RefreshError
server_fault None = None
server_fault (Some why) = Some (Client why)
