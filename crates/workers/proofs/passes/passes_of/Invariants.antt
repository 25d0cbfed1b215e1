use Rattle.std.proofs.Common.{◌≡◌, ◌+◌, ◌-◌, ◌∷◌, [], vec_len}
use Rattle.std.specs.List.{All}
use Rattle.shard_store.specs.Pass.{IsOf}
use Rattle.workers.specs.Closing.{HasOne}
use Rattle.workers.proofs.NumberLemmas.{HaveFrom}
use Rattle.workers.proofs.passes.passes_of.Given as goal

abbrev pub invariant-loop : goal.invariant-loop
invariant-loop l =
    IsOf l.first l.store × (l.first.seen.ranges ≡ (0, 4294967297 - l.counter) ∷ [])
    × (vec_len l.passes + 1 ≡ l.counter) × All (λ pass. IsOf pass l.store) l.passes.items
    × HaveFrom (4294967297 - l.counter) l.passes.items
    × (l.first.seen.log ≡ l.fn.first.seen.log)
    × All (λ pass. pass.seen.log ≡ l.fn.first.seen.log) l.passes.items
    × All HasOne l.passes.items
