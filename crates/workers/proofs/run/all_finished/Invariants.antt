use Rattle.std.proofs.Common.{◌≡◌, ◌++◌, length, map, Ok}
use Rattle.std.specs.Vec.Iter.{into_iter_items, into_iter_len}
use Rattle.workers.proofs.run.all_finished.Given as goal

abbrev pub invariant-loop-finished : goal.invariant-loop-finished
invariant-loop-finished l =
    (l.yielded ++ into_iter_items l.finished-iterator ≡ into_iter_items l.initial.finished-iterator)
    × (into_iter_len l.finished-iterator ≡ length (into_iter_items l.finished-iterator))
    × (map Ok l.all.items ≡ l.yielded)
