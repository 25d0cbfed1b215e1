-- What the command `trace` writes: the run of the events that are its input.
use Rattle.std.specs.Prelude.{◌≡◌, ℕ, Bool, true, false, List, length, Option}
use Rattle.step_core.specs.declared.event.Event.{Event}
use Rattle.step_core.specs.declared.trace.OpRecord.{OpRecord}
use Rattle.step_core.specs.Records.{IsLinearized}
use Rattle.step_core.specs.Run.{run_of, order_of}
use Rattle.step_core.specs.Trace.{records_of}
use Rattle.trace_lines.specs.Events.{lines_in, AreEvents, IsFirstBad}
use Rattle.trace_lines.specs.TraceText.{trace_text}
use Rattle.trace_lines.specs.Picture.{picture_text}
use Rattle.commands.specs.declared.fault.Fault.{Fault}
use Rattle.commands.specs.declared.fault.Fault.TheVariants.{BadLine}
use Rattle.commands.specs.Input.{IsInput, InputFault}
use Rattle.commands.specs.declared.input.Extent.TheVariants.{Limited}

-- the records of the run of these events over so many shards, a fetch-all in so many rounds, and the order that linearizes them
pub record IsTraceOf (shards rounds : ℕ) (events : List Event) (records : List OpRecord) (order : List ℕ) : Type 0 where
  pub records_are : records ≡ records_of (run_of shards rounds events)
  pub order_is : order ≡ order_of (run_of shards rounds events)
  pub linearized : IsLinearized (length events) records order

-- the input is read whole, its lines are those of these events, and these are the records and the order of their run
abbrev pub RunsInput : ℕ → ℕ → List Event → List OpRecord → List ℕ → Option (List ℕ) → Option (List ℕ) → Type 0
RunsInput shards rounds events records order left_old left_new =
    (input : List ℕ) × IsInput Limited input left_old left_new × AreEvents (lines_in input) events × IsTraceOf shards rounds events records order

-- what is printed of a run of so many events: its picture with its text below, or the text only
abbrev pub printed : Bool → ℕ → List OpRecord → List ℕ → List ℕ
printed true events records order = picture_text events records order
printed false events records order = trace_text records order

-- the run of the input, as it is printed
abbrev pub RunOf : ℕ → ℕ → Bool → List ℕ → Option (List ℕ) → Option (List ℕ) → Type 0
RunOf shards rounds picture text left_old left_new =
    (events : List Event) × (records : List OpRecord) × (order : List ℕ) × RunsInput shards rounds events records order left_old left_new
    × (text ≡ printed picture (length events) records order)

-- this line is the first that is not an event's; or the input is not read
abbrev pub NoRun : Fault → Option (List ℕ) → Option (List ℕ) → Type 0
NoRun (BadLine line) left_old left_new = (input : List ℕ) × IsInput Limited input left_old left_new × IsFirstBad line (lines_in input)
NoRun fault left_old left_new = InputFault Limited fault left_old left_new
