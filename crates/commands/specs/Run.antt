-- What the command `run` does: one session over an empty store.
use Rattle.std.specs.Prelude.{◌≡◌, ℕ, Result, Ok, Err}
use Rattle.std.specs.FinMap as finite
use Rattle.wire.specs.Counted.{MakesReads}
use Rattle.wire.specs.declared.error.FrontError.{FrontError}
use Rattle.wire.specs.declared.error.FrontError.TheVariants.{TurnsUsed}
use Rattle.frame_front.specs.PlainSession.{PlainTranscript}
use Rattle.step_core.specs.Shards.{ShardsAnswer}
use Rattle.map_core.specs.PlainMap.{PlainMap}
use Rattle.commands.specs.declared.fault.Fault.{Fault}
use Rattle.commands.specs.declared.fault.Fault.TheVariants.{Front}
use Rattle.commands.specs.Streams.{Streams, EndsWith, well}

-- the fault of a command whose session ended so
abbrev pub session_fault : Result ℕ FrontError → Result ℕ Fault
session_fault (Ok count) = Ok count
session_fault (Err error) = Err (Front error)

-- One session, of so many reads at most, from the empty map to the one that is left.
pub record Runs (turns status : ℕ) (old new : Streams) : Type 0 where
  pub ended : Result ℕ FrontError
  pub left : PlainMap
  pub ends : EndsWith well (session_fault ended) status old new
  pub reads : MakesReads turns (ended ≡ Err TurnsUsed) old.input.reads new.input.reads
  pub session : PlainTranscript ShardsAnswer ended turns old.input.bytes new.input.bytes old.output.bytes new.output.bytes finite.empty left
