use Rattle.std.proofs.Common.{◌≡◌, ◌++◌, length, vec_len}
use Rattle.std.specs.Vec.Iter.{into_iter_items, into_iter_len}
use Rattle.server.proofs.serving.lasting.incoming_of.Given as goal

abbrev pub invariant-loop-ready : goal.invariant-loop-ready
invariant-loop-ready g l =
    (l.yielded ++ into_iter_items l.ready-iterator ≡ into_iter_items l.initial.ready-iterator)
    × (into_iter_len l.ready-iterator ≡ length (into_iter_items l.ready-iterator))
    × (vec_len l.all ≡ length l.yielded)
