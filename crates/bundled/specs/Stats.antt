-- What the command `stats` does to its streams; what its lines say is not defined here.
use Rattle.std.specs.Prelude.{◌≡◌, ℕ, Bool, Result}
use Rattle.commands.specs.declared.fault.Fault.{Fault}
use Rattle.commands.specs.Streams.{Streams, Ends, three_if}

-- Nothing is read from standard input.
pub record StatsRun (status : ℕ) (old new : Streams) : Type 0 where
  pub reads : new.input ≡ old.input
  pub ended : Result Bool Fault
  pub ends : Ends three_if ended status old.error new.error
