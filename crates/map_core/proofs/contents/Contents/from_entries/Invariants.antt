use Rattle.std.proofs.Common.{◌≡◌}
use Rattle.std.specs.Vec.Iter.{into_iter_items}
use Rattle.map_core.specs.Private.Turns.{with_entries, put_in_turn}
use Rattle.map_core.proofs.contents.Contents.from_entries.Given as goal

-- what is held so far, with the entries that are still to come, is all
abbrev pub invariant-loop-domain : goal.invariant-loop-domain
invariant-loop-domain l = with_entries l.all (into_iter_items l.domain-iterator) ≡ put_in_turn (into_iter_items l.initial.domain-iterator)
