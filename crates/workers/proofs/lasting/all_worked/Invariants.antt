use Rattle.std.proofs.Common.{◌≡◌, ◌++◌, length, map, Ok}
use Rattle.std.specs.Vec.Iter.{into_iter_items, into_iter_len}
use Rattle.workers.proofs.lasting.all_worked.Given as goal

abbrev pub invariant-loop-worked : goal.invariant-loop-worked
invariant-loop-worked l =
    (l.yielded ++ into_iter_items l.worked-iterator ≡ into_iter_items l.initial.worked-iterator)
    × (into_iter_len l.worked-iterator ≡ length (into_iter_items l.worked-iterator))
    × (map Ok l.all.items ≡ l.yielded)
