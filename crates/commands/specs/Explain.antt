-- What the command `explain` does to its output.
use Rattle.std.specs.Prelude.{◌≡◌, ℕ, List, Result}
use Rattle.commands.specs.declared.fault.Fault.{Fault}
use Rattle.commands.specs.Streams.{Streams, WritesText, EndsWith, well}

-- The text is written, and nothing is read.
pub record Explains (text : List ℕ) (status : ℕ) (old new : Streams) : Type 0 where
  pub ended : Result (Unit {0}) Fault
  pub ends : EndsWith well ended status old new
  pub reads : new.input ≡ old.input
  pub writes : WritesText (λ done written. written ≡ text) (λ fault. ⊥) ended old.output new.output
