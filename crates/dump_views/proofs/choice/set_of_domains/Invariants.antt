use Rattle.std.proofs.Common.{◌≡◌, ℕ, List, take}
use Rattle.dump_views.specs.Choice.{is_named, names_of}
use Rattle.dump_views.specs.Private.Names.{has}
use Rattle.dump_views.proofs.choice.set_of_domains.Given as goal

abbrev pub invariant-loop-item : goal.invariant-loop-item
invariant-loop-item l = (other : List ℕ) → has l.set other ≡ is_named (names_of (take l.item-index l.domains)) other
