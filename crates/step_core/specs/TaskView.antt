-- A task, as its callers see it.
use Rattle.std.specs.Prelude.{ℕ, List, Option}
use Rattle.step_core.specs.Phase.{Phase}

-- an operation over this many shards, within this many rounds, by one who has the bundles of this digest already, if it is told
pub record TaskView : Type 0 where
  pub shards : ℕ
  pub rounds : ℕ
  pub known : Option (List ℕ)
  pub phase : Phase
