-- What the command `snapshot` does to its streams; what is in its folder is not defined here.
use Rattle.std.specs.Prelude.{◌≡◌, ◌<◌, ℕ, Bool, true, Result, IfOk}
use Rattle.commands.specs.declared.fault.Fault.{Fault}
use Rattle.commands.specs.Streams.{Streams, EndsAfterLines, three_if}

-- Nothing is read from standard input. It comes to whether the server has fewer domains than are wanted, which it never has if none
-- are. The lines before the last are of what is tried again, and of what is left out.
pub record SnapshotRun (least status : ℕ) (old new : Streams) : Type 0 where
  pub reads : new.input ≡ old.input
  pub ended : Result Bool Fault
  pub few : IfOk ended (λ few. few ≡ true → 0 < least)
  pub ends : EndsAfterLines three_if ended status old.error new.error
