-- Dumps that are read whole, and commands that write a text of what they read.
use Rattle.std.specs.Prelude.{◌≡◌, ℕ, List, Option, Result, Err}
use Rattle.wire.specs.Counted.{next_count}
use Rattle.frame_front.specs.Dump.{Domains, IsDump, IsBadDump}
use Rattle.wire.specs.Output.{End}
use Rattle.frame_front.specs.declared.dump.DumpError.TheVariants as dumps
use Rattle.wire.specs.declared.error.FrontError.TheVariants.{ReadFault, WriteFault}
use Rattle.commands.specs.declared.fault.Fault.{Fault}
use Rattle.commands.specs.declared.fault.Fault.TheVariants.{Front, Dump}
use Rattle.commands.specs.Input.{IsInput, InputFault, ReadsInput}
use Rattle.commands.specs.declared.input.Extent.{Extent}
use Rattle.commands.specs.Streams.{Source, Streams, WritesText, Ends, well}

-- the input is a dump of these domains
abbrev pub IsRead : Extent → Domains → Option (List ℕ) → Option (List ℕ) → Type 0
IsRead extent items left_old left_new = (input : List ℕ) × IsInput extent input left_old left_new × IsDump input items

-- why no dump is read: the input is not one, or is not read
abbrev pub Unread : Extent → Fault → Option (List ℕ) → Option (List ℕ) → Type 0
Unread extent (Dump (dumps.BadDump place)) left_old left_new = (input : List ℕ) × IsInput extent input left_old left_new × IsBadDump input place
Unread extent (Dump dumps.Memory) left_old left_new = Unit {0}
Unread extent fault left_old left_new = InputFault extent fault left_old left_new

-- what a text is of the input, and why it has no text
abbrev pub TextOf : Type 1
TextOf = List ℕ → Option (List ℕ) → Option (List ℕ) → Type 0

abbrev pub NoText : Type 1
NoText = Fault → Option (List ℕ) → Option (List ℕ) → Type 0

-- The input is read whole, and its text is written, or it has none; 53 is told only if the reader failed in the meantime, and 54
-- only if the writer did.
pub record Filtered (extent : Extent) (Of : TextOf) (Lacks : NoText) (ended : Result (Unit {0}) Fault) (input_old input_new : Source) (output_old output_new : End) : Type 0 where
  pub reads : ReadsInput extent ended input_old.reads input_new.reads
  pub writes : WritesText (λ done text. Of text input_old.bytes input_new.bytes) (λ fault. Lacks fault input_old.bytes input_new.bytes) ended output_old output_new
  pub read_fault : ended ≡ Err (Front ReadFault) → input_new.faults ≡ next_count input_old.faults
  pub write_fault : ended ≡ Err (Front WriteFault) → output_new.faults ≡ next_count output_old.faults

-- The whole command.
pub record Filters (extent : Extent) (Of : TextOf) (Lacks : NoText) (status : ℕ) (old new : Streams) : Type 0 where
  pub ended : Result (Unit {0}) Fault
  pub ends : Ends well ended status old.error new.error
  pub filtered : Filtered extent Of Lacks ended old.input new.input old.output new.output
