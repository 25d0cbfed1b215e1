-- What becomes of bytes that are put, one after another.
use Rattle.std.specs.Prelude.{◌≡◌, ℕ, List, ◌++◌, codes, decimal, Option, Result, Ok, Err}
use Rattle.wire.specs.Counted.{end_in, faults_in, next_count}
use Rattle.wire.specs.declared.counted.Counted.{Counted}
use Rattle.wire.specs.declared.error.FrontError.{FrontError}
use Rattle.wire.specs.declared.error.FrontError.TheVariants.{WriteFault}
use Rattle.wire.specs.Output.{WritesFront}
use Rattle.frame_front.specs.Private.Gathered.{Takes}
use Rattle.step_core.specs.declared.trace.OpRecord.{OpRecord}
use Rattle.wire.specs.RequestForm.{◌then◌}
use Rattle.trace_lines.specs.TraceText.{event_word}

-- what a writer holds, how many of its calls have failed, and the bytes that wait
pub record Out : Type 0 where
  pub held : Option (List ℕ)
  pub faults : ℕ
  pub waits : List ℕ

abbrev pub out_of : {W : Type 0} → (W → Option (List ℕ)) → Counted W → List ℕ → Out
out_of held_of writer waits = record { held = held_of (end_in writer); faults = faults_in writer; waits = waits }

-- of what waited and the bytes after it a front is written, and the rest waits
pub record PutsAll (old new : Out) (bytes : List ℕ) : Type 0 where
  pub takes : Takes old.held new.held old.waits bytes new.waits
  pub quiet : new.faults ≡ old.faults

-- the writer failed, and only a front is written
pub record PutsFront (error : FrontError) (old new : Out) (bytes : List ℕ) : Type 0 where
  pub fault : error ≡ WriteFault
  pub counted : new.faults ≡ next_count old.faults
  pub front : WritesFront old.held new.held (old.waits ++ bytes)

abbrev pub Puts : Result (Unit {0}) FrontError → Out → Out → List ℕ → Type 0
Puts (Ok done) old new bytes = PutsAll old new bytes
Puts (Err error) old new bytes = PutsFront error old new bytes

-- the line of a record, which ends with these bytes
abbrev pub record_words : ℕ → OpRecord → List ℕ → List ℕ
record_words number r reply =
    codes "record" then decimal number then codes "caller" then decimal r.caller then codes "first" then decimal r.first
    then codes "last" then event_word r.last then codes "reply" then reply
