-- Whose fault is told, and what is told before it.
use Rattle.std.proofs.Common.{◌≡◌, ◌<◌, ◌-◌, ◌^◌, ℕ, List, Result, refl, subst}
use Rattle.wire.specs.Counted.{next_count}
use Rattle.wire.specs.declared.error.FrontError.{FrontError}
use Rattle.wire.specs.declared.error.FrontError.TheVariants.{BadLength, Truncated, ReadFault, WriteFault, TurnsUsed, Memory}
use Rattle.wire.specs.Output.{End, Tells, TellsUnlessFailed}
use Rattle.wire.proofs.OutputLemmas.{tells_more}
use Rattle.commands.specs.declared.fault.Fault.{Fault}
use Rattle.commands.specs.declared.fault.Fault.TheVariants.{Front}
use Rattle.commands.specs.Streams.{Streams, Blames, EndsAfterLines, exit_status, last_line}

-- a session's error blames an end only if that failed
pub blames_a_session : (error : FrontError) (old new : Streams) → (error ≡ ReadFault → new.input.faults ≡ next_count old.input.faults)
    → (error ≡ WriteFault → new.output.faults ≡ next_count old.output.faults) → Blames (Front error) old new
blames_a_session ReadFault old new reads writes = reads refl
blames_a_session WriteFault old new reads writes = writes refl
blames_a_session BadLength old new reads writes = tt
blames_a_session Truncated old new reads writes = tt
blames_a_session TurnsUsed old new reads writes = tt
blames_a_session Memory old new reads writes = tt

-- lines, and the last one behind them
pub ends_after : {T : Type 0} (status_of : T → ℕ) (end : Result T Fault) (status : ℕ) (lines : List ℕ) (before : ℕ) (old mid new : End) → before ≡ old.faults
    → old.faults < 2 ^ 64 - 1 → Tells old mid lines → status ≡ exit_status status_of end → TellsUnlessFailed before mid new (last_line end)
    → EndsAfterLines status_of end status old new
ends_after status_of end status lines before old mid new is few tells has_status follows = record {
  has_status = has_status;
  lines = lines;
  tells = tells_more old mid new lines (last_line end) few tells (subst (λ (b : ℕ). TellsUnlessFailed b mid new (last_line end)) is follows);
}
