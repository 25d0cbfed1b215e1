use Rattle.std.proofs.Common.{◌≡◌, ◌∷◌, length}
use Rattle.std.specs.Vec.Iter.{into_iter_items, into_iter_len}
use Rattle.std.specs.List.{All}
use Rattle.shard_store.specs.Pass.{IsOf}
use Rattle.workers.proofs.ClosingLemmas.{IsJoined}
use Rattle.workers.proofs.closing.close_store.Given as goal

abbrev pub invariant-loop-worker : goal.invariant-loop-worker
invariant-loop-worker l =
    IsOf l.pass l.store × All (λ w. IsOf w.pass l.store) (into_iter_items l.worker-iterator)
    × IsJoined (l.first ∷ l.yielded) (into_iter_items l.worker-iterator) l.fn.worked.items l.pass.seen
    × (into_iter_len l.worker-iterator ≡ length (into_iter_items l.worker-iterator))
