-- Standard input, output and error, or what stands in their place, and what a command that ends tells them.
use Rattle.std.specs.Prelude.{◌≡◌, ℕ, List, [], ◌++◌, Bool, true, false, Option, Some, None, Result, Ok, Err, IfErr}
use Rattle.std.specs.Io.KnownBytes.{Appends}
use Rattle.wire.specs.Counted.{end_in, faults_in, reads_of, next_count}
use Rattle.wire.specs.declared.counted.Counted.{Counted}
use Rattle.wire.specs.declared.error.FrontError.TheVariants.{ReadFault, WriteFault}
use Rattle.wire.specs.Output.{WritesFront, End, Tells, end_of}
use Rattle.commands.specs.declared.fault.Fault.{Fault}
use Rattle.commands.specs.declared.fault.Fault.TheVariants.{Front}
use Rattle.commands.specs.Fault.{fault_line}

-- the bytes that a reader has left, if they are known, how many of its calls have failed, and how often it was read
pub record Source : Type 0 where
  pub bytes : Option (List ℕ)
  pub faults : ℕ
  pub reads : ℕ

abbrev pub source_of : {R : Type 0} → (R → Option (List ℕ)) → Counted R → Source
source_of left_of counted = record { bytes = left_of (end_in counted); faults = faults_in counted; reads = reads_of counted }

pub record Streams : Type 0 where
  pub input : Source
  pub output : End
  pub error : End

abbrev pub streams : {R W E : Type 0} → (R → Option (List ℕ)) → (W → Option (List ℕ)) → (E → Option (List ℕ))
    → Counted R → Counted W → Counted E → Streams
streams left_of held_of told_of reader out err =
    record { input = source_of left_of reader; output = end_of held_of out; error = end_of told_of err }

-- 53 is told only if the reader failed in the meantime, and 54 only if the writer did
abbrev pub Blames : Fault → Streams → Streams → Type 0
Blames (Front ReadFault) old new = new.input.faults ≡ next_count old.input.faults
Blames (Front WriteFault) old new = new.output.faults ≡ next_count old.output.faults
Blames fault old new = Unit {0}

-- ---- what a command writes

-- A text is written, of the value that the command came to; a front of some text if the writer failed; nothing after any other
-- fault, for which there is no text.
abbrev pub WritesText : {T : Type 0} → (Option T → List ℕ → Type 0) → (Fault → Type 0) → Result T Fault → End → End → Type 0
WritesText IsText HasNone (Ok value) old new = (text : List ℕ) × IsText (Some value) text × Appends old.bytes new.bytes text
WritesText IsText HasNone (Err (Front WriteFault)) old new = (text : List ℕ) × IsText None text × WritesFront old.bytes new.bytes text
WritesText IsText HasNone (Err fault) old new = HasNone fault × (new ≡ old)

-- ---- how a command ends

-- whatever it came to, all went well
abbrev pub well : {T : Type 0} → T → ℕ
well value = 0

-- 3 if there is something that its caller is to know: a refusal, a change, or a refresh that did not go well
abbrev pub three_if : Bool → ℕ
three_if true = 3
three_if false = 0

-- the exit status: what it says of the value that a command came to, or 1 after a fault
abbrev pub exit_status : {T : Type 0} → (T → ℕ) → Result T Fault → ℕ
exit_status status_of (Ok value) = status_of value
exit_status status_of (Err fault) = 1

-- what comes last on standard error: after a fault its line
abbrev pub last_line : {T : Type 0} → Result T Fault → List ℕ
last_line (Ok value) = []
last_line (Err fault) = fault_line fault

-- A command ends so, with this exit status; if all went well, nothing is written to standard error.
abbrev pub Ends : {T : Type 0} → (T → ℕ) → Result T Fault → ℕ → End → End → Type 0
Ends status_of (Ok value) status old new = (status ≡ status_of value) × (new ≡ old)
Ends status_of (Err fault) status old new = (status ≡ 1) × Tells old new (fault_line fault)

-- And an end is blamed only if it failed.
abbrev pub EndsWith : {T : Type 0} → (T → ℕ) → Result T Fault → ℕ → Streams → Streams → Type 0
EndsWith status_of ended status old new = Ends status_of ended status old.error new.error × IfErr ended (λ fault. Blames fault old new)

-- Some lines go to standard error before; once it has failed, no more.
pub record EndsAfterLines {T : Type 0} (status_of : T → ℕ) (ended : Result T Fault) (status : ℕ) (old new : End) : Type 0 where
  pub has_status : status ≡ exit_status status_of ended
  pub lines : List ℕ
  pub tells : Tells old new (lines ++ last_line ended)
