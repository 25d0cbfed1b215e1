-- Input that is read whole before it is judged.
use Rattle.std.specs.Prelude.{◌≡◌, ℕ, ◌<◌, ◌≤◌, List, length, Option, Result, Err}
use Rattle.std.specs.Io.KnownBytes.{Consumes, IsAtEnd}
use Rattle.wire.specs.Counted.{MakesReads}
use Rattle.wire.specs.declared.error.FrontError.TheVariants.{ReadFault, TurnsUsed, Memory}
use Rattle.commands.specs.declared.fault.Fault.{Fault}
use Rattle.commands.specs.declared.fault.Fault.TheVariants.{Front, InputTooLong}
use Rattle.commands.specs.declared.input.Extent.{Extent}
use Rattle.commands.specs.declared.input.Extent.TheVariants.{Limited, Any}

-- the most bytes of an input, and the most reads; any input that memory holds has fewer than 2^64 bytes
abbrev pub most_bytes : Extent → ℕ
most_bytes Limited = 16777216
most_bytes Any = 18446744073709551615

abbrev pub most_reads : Extent → ℕ
most_reads Limited = 1000000
most_reads Any = 1000000000

-- these bytes are all of the input
pub record IsInput (extent : Extent) (input : List ℕ) (left_old left_new : Option (List ℕ)) : Type 0 where
  pub consumes : Consumes left_old left_new input
  pub ended : IsAtEnd left_new
  pub few : length input ≤ most_bytes extent

-- A command that reads an input so makes at most so many reads; and has made all of them if it gives up for their number.
abbrev pub ReadsInput : Extent → {T : Type 0} → Result T Fault → ℕ → ℕ → Type 0
ReadsInput extent ended old new = MakesReads (most_reads extent) (ended ≡ Err (Front TurnsUsed)) old new

-- why an input is not read: it is too long, or as many reads as it may take have each given a byte of it
abbrev pub InputFault : Extent → Fault → Option (List ℕ) → Option (List ℕ) → Type 0
InputFault extent InputTooLong left_old left_new = (read : List ℕ) × Consumes left_old left_new read × (most_bytes extent < length read)
InputFault extent (Front TurnsUsed) left_old left_new =
    (read : List ℕ) × Consumes left_old left_new read × (most_reads extent ≤ length read) × (length read ≤ most_bytes extent)
InputFault extent (Front ReadFault) left_old left_new = Unit {0}
InputFault extent (Front Memory) left_old left_new = Unit {0}
InputFault extent fault left_old left_new = ⊥
