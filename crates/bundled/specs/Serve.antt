-- The command `serve`: its settings say in which form its workers serve.
use Rattle.std.specs.Prelude.{ℕ, List}
use Rattle.shard_store.specs.Pass.{StoreView, PassView}
use Rattle.workers.specs.declared.ended.Worked.{Worked}
use Rattle.command_line.specs.declared.settings.Connections.{Connections}
use Rattle.command_line.specs.declared.settings.Connections.TheVariants.{Each, Unlimited}
use Rattle.server.specs.Serving.{ServedBeside, ServedInTurn, most_turns}

-- By the form: each worker has served its clients one after the other, or beside each other.
abbrev pub ServedAs : Connections → ℕ → StoreView → List PassView → List Worked → Type 0
ServedAs (Each count) turns store passes worked = ServedInTurn count (most_turns turns) store passes worked
ServedAs (Unlimited lasting) turns store passes worked = ServedBeside lasting turns store passes worked
