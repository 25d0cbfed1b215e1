-- The numbers of faults, and the lines that tell them.
use Rattle.std.specs.Prelude.{ℕ, List, [], ◌∷◌, ◌++◌, codes, decimal, slice_index}
use Rattle.wire.specs.Error.{front_number}
use Rattle.frame_front.specs.Dump.{dump_number}
use Rattle.client.specs.ClientError.{client_number}
use Rattle.shard_store.specs.Close.{close_number}
use Rattle.shard_store.specs.declared.close.CloseError.TheVariants as closing
use Rattle.refresh.specs.Number.{relation_number}
use Rattle.refresh.specs.declared.error.RefreshError.{RefreshError}
use Rattle.refresh.specs.declared.error.RefreshError.TheVariants as refreshing
use Rattle.frame_front.specs.declared.dump.DumpError.TheVariants as dumps
use Rattle.commands.specs.declared.fault.RefreshFault.TheVariants.{BadRelationship, NoClock}
use Rattle.commands.specs.declared.fault.ServerFault.TheVariants.{Client, NoConnection}
use Rattle.map_core.specs.Reply.{error_number}
use Rattle.map_core.specs.declared.reply.AskError.{AskError}
use Rattle.map_core.specs.declared.reply.AskError.TheVariants as asking
use Rattle.commands.specs.declared.fault.SnapshotFault.TheVariants.{Refused, LongName, BadFolder}
use Rattle.commands.specs.declared.fault.Fault.{Fault}
use Rattle.commands.specs.declared.fault.Fault.TheVariants.{Front, Dump, BadLine, BadFrame, UnreadText, NotInDump, BadMap, BadMember, InputTooLong, Server, Refresh, Snapshot, Listen, Close, Unsaved}

-- the shard, and its revisions
abbrev pub asking_numbers : AskError → List ℕ
asking_numbers asking.Memory = []
asking_numbers (asking.Worn shard) = shard ∷ []
asking_numbers (asking.Moved shard first second) = shard ∷ first ∷ second ∷ []
asking_numbers (asking.Held shard revision) = shard ∷ revision ∷ []
asking_numbers asking.GateShut = []

-- its own number, and what it carries: a frame or a member, a line and maybe why, a name, a domain or a file, or a shard and its
-- revisions
abbrev pub fault_numbers : Fault → List ℕ
fault_numbers (Front error) = front_number error ∷ []
fault_numbers (Dump (dumps.BadDump frame)) = dump_number (dumps.BadDump frame) ∷ frame ∷ []
fault_numbers (Dump error) = dump_number error ∷ []
fault_numbers (BadLine line) = 70 ∷ line ∷ []
fault_numbers (BadFrame frame) = 76 ∷ frame ∷ []
fault_numbers (UnreadText line) = 77 ∷ line ∷ []
fault_numbers (NotInDump name) = 75 ∷ name ∷ []
fault_numbers BadMap = 64 ∷ []
fault_numbers (BadMember member) = 65 ∷ member ∷ []
fault_numbers InputTooLong = 71 ∷ []
fault_numbers (Server (Client error)) = client_number error ∷ []
fault_numbers (Server NoConnection) = 78 ∷ []
fault_numbers (Refresh (BadRelationship error line)) = 79 ∷ line ∷ relation_number error ∷ []
fault_numbers (Refresh NoClock) = 72 ∷ []
fault_numbers (Snapshot (Refused error)) = error_number error ∷ asking_numbers error
fault_numbers (Snapshot (LongName domain)) = 73 ∷ domain ∷ []
fault_numbers (Snapshot BadFolder) = 74 ∷ []
fault_numbers Listen = 57 ∷ []
fault_numbers (Close (closing.HeldAtEnd shard)) = close_number (closing.HeldAtEnd shard) ∷ shard ∷ []
fault_numbers (Close error) = close_number error ∷ []
fault_numbers Unsaved = 59 ∷ []

abbrev pub fault_number : Fault → ℕ
fault_number fault = slice_index (fault_numbers fault) 0

-- a space and the number
abbrev pub number_text : ℕ → List ℕ
number_text number = 32 ∷ decimal number

abbrev pub numbers_text : List ℕ → List ℕ
numbers_text [] = []
numbers_text (number ∷ numbers) = number_text number ++ numbers_text numbers

-- `fault`, its number and what it carries, with single spaces between; a line feed ends it
abbrev pub fault_line : Fault → List ℕ
fault_line fault = codes "fault" ++ numbers_text (fault_numbers fault) ++ 10 ∷ []

-- the fault of a command whose refreshes ended so
abbrev pub refresh_fault : RefreshError → Fault
refresh_fault (refreshing.Front error) = Front error
refresh_fault (refreshing.Client error) = Server (Client error)
