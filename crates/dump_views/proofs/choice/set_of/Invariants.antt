use Rattle.std.proofs.Common.{◌≡◌, ℕ, List, take}
use Rattle.dump_views.specs.Choice.{is_named}
use Rattle.dump_views.specs.Private.Names.{has}
use Rattle.dump_views.proofs.choice.set_of.Given as goal

abbrev pub invariant-loop-name : goal.invariant-loop-name
invariant-loop-name l = (other : List ℕ) → has l.set other ≡ is_named (take l.name-index l.names) other
