use Rattle.std.proofs.Common.{◌≡◌, ◌++◌, length, map}
use Rattle.std.specs.Vec.Iter.{into_iter_items, into_iter_len}
use Rattle.workers.specs.Private.Numbers.{AreNumbered}
use Rattle.workers.proofs.lasting.tasks_of.Given as goal

abbrev pub invariant-loop-pass : goal.invariant-loop-pass
invariant-loop-pass g l =
    (l.yielded ++ into_iter_items l.pass-iterator ≡ into_iter_items l.initial.pass-iterator)
    × (into_iter_len l.pass-iterator ≡ length (into_iter_items l.pass-iterator))
    × (into_iter_len l.left ≡ into_iter_len l.pass-iterator)
    × (map (λ w. w.pass) l.tasks.items ≡ l.yielded)
    × (map (λ w. w.arrivals) l.tasks.items ++ into_iter_items l.left ≡ into_iter_items l.initial.left)
    × (into_iter_len l.left ≡ length (into_iter_items l.left))
    × AreNumbered 0 (map (λ w. w.number) l.tasks.items)
