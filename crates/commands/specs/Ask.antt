-- What the command `ask` does to its streams, and to those of the server.
use Rattle.std.specs.Prelude.{◌≡◌, ◌⊎◌, ℕ, Bool, if◌then◌else◌, List, ◌∷◌, drop, Option, Some, Result, Ok, Err}
use Rattle.std.specs.List.{flat_map}
use Rattle.wire.specs.Counted.{next_count}
use Rattle.wire.specs.Encoding.{Gives}
use Rattle.wire.specs.RequestForm.{IsOneLine}
use Rattle.wire.specs.declared.error.FrontError.TheVariants.{Memory}
use Rattle.client.specs.declared.client_error.ClientError.TheVariants.{ReadFault, WriteFault}
use Rattle.client.specs.Asking.{AsksStream, ends}
use Rattle.client.specs.declared.asking.Asking.{Asking}
use Rattle.client.specs.declared.fault.AskFault.{AskFault}
use Rattle.client.specs.declared.fault.AskFault.TheVariants as asking
use Rattle.client.specs.declared.server_streams.ServerStreams.{ServerStreams}
use Rattle.commands.specs.declared.fault.Fault.{Fault}
use Rattle.commands.specs.declared.fault.Fault.TheVariants.{Front, BadLine, UnreadText, Server}
use Rattle.commands.specs.declared.fault.ServerFault.TheVariants.{Client}
use Rattle.commands.specs.Fault.{fault_line}
use Rattle.wire.specs.Output.{End, Tells, end_of}
use Rattle.commands.specs.Streams.{Streams, Source, EndsWith, three_if}

-- the fault of a command whose asking ended so
abbrev pub asking_fault : AskFault → Fault
asking_fault (asking.BadLine line) = BadLine line
asking_fault (asking.Unreadable line) = UnreadText line
asking_fault (asking.Server error) = Server (Client error)
asking_fault (asking.Front error) = Front error

abbrev pub asked : Result Bool AskFault → Result Bool Fault
asked (Ok refused) = Ok refused
asked (Err fault) = Err (asking_fault fault)

-- a server's output, of which replies are read, and its input, to which requests are written
pub record ServerEnds : Type 0 where
  pub from : End
  pub to : End

abbrev pub server : {R W : Type 0} → (R → Option (List ℕ)) → (W → Option (List ℕ)) → ServerStreams R W → ServerEnds
server left_of held_of link = record { from = end_of left_of link.from; to = end_of held_of link.to }

-- of a server, 53 is told only if a read of its output failed in the meantime, and 54 only if a write to its input did
abbrev pub BlamesServer : Fault → ServerEnds → ServerEnds → Type 0
BlamesServer (Server (Client ReadFault)) old new = new.from.faults ≡ next_count old.from.faults
BlamesServer (Server (Client WriteFault)) old new = new.to.faults ≡ next_count old.to.faults
BlamesServer fault old new = Unit {0}

-- no read, write or flush failed in the meantime
abbrev pub AreQuiet : Streams → Streams → ServerEnds → ServerEnds → Type 0
AreQuiet old new server_old server_new =
    (new.input.faults ≡ old.input.faults) × (new.output.faults ≡ old.output.faults)
    × (server_new.from.faults ≡ server_old.from.faults) × (server_new.to.faults ≡ server_old.to.faults)

-- what failed in the meantime: nothing, if each request was asked
abbrev pub Failed : Result Bool AskFault → Streams → Streams → ServerEnds → ServerEnds → Type 0
Failed (Ok refused) old new server_old server_new = AreQuiet old new server_old server_new
Failed (Err fault) old new server_old server_new = BlamesServer (asking_fault fault) server_old server_new

-- Lines are asked, with the texts that are given for their names, and the replies are shown; the status is 3 if some reply is a
-- refusal.
pub record Asks (gives : Gives) (how : Asking) (status : ℕ) (old new : Streams) (server_old server_new : ServerEnds) : Type 0 where
  pub ended : Result Bool AskFault
  pub ends_so : EndsWith three_if (asked ended) status old new
  pub failed : Failed ended old new server_old server_new
  pub asks : AsksStream gives how ended
      (ends old.input.bytes server_old.from.bytes server_old.to.bytes old.output.bytes)
      (ends new.input.bytes server_new.from.bytes server_new.to.bytes new.output.bytes)

-- ---- a request as words

-- the words with single spaces between: each with a space before it, but for the first space
abbrev pub spaced : List (List ℕ) → List ℕ
spaced words = flat_map (λ word. 32 ∷ word) words

abbrev pub joined : List (List ℕ) → List ℕ
joined words = drop 1 (spaced words)

-- a line of no input
abbrev pub held_line : List ℕ → Source
held_line line = record { bytes = Some line; faults = 0; reads = 0 }

-- why words are not asked: a line feed is in one, or memory ran out
abbrev pub IsUnasked : List (List ℕ) → Fault → Type 0
IsUnasked words (BadLine number) = (number ≡ 1) × (IsOneLine (joined words) → ⊥)
IsUnasked words (Front Memory) = Unit {0}
IsUnasked words fault = ⊥

-- The words, as one line, are asked. Or nothing is asked.
abbrev pub AsksWords : Gives → Asking → List (List ℕ) → ℕ → End → End → End → End → ServerEnds → ServerEnds → Type 0
AsksWords gives how words status output_old output_new error_old error_new server_old server_new =
    (IsOneLine (joined words) × (left : Source) × Asks gives how status
    (record { input = held_line (joined words); output = output_old; error = error_old })
    (record { input = left; output = output_new; error = error_new }) server_old server_new)
    ⊎ ((fault : Fault) × IsUnasked words fault × (status ≡ 1) × (output_new ≡ output_old) × (server_new ≡ server_old) × Tells error_old error_new (fault_line fault))
