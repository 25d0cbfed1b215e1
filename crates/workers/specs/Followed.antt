-- What workers give back that serve many connections each.
use Rattle.std.specs.Prelude.{ℕ, suc, ◌<◌, List, [], ◌∷◌, ◌++◌, Bool, length, get_or}
use Rattle.workers.specs.Connection.{ConnectionView}
use Rattle.shard_store.specs.Pass.{StoreView, PassView, IsOf}
use Rattle.workers.specs.Workers.{IsFurther, WorkerAnswer, at_work}
use Rattle.workers.specs.declared.ended.Worked.{Worked}
use Rattle.workers.specs.declared.limits.Patience.{Patience}
use Rattle.workers.specs.Arrivals.{Brings, IsToStop}
use Rattle.workers.specs.Places.{ServedAll}
use Rattle.workers.specs.declared.arrivals.Arrival.{Arrival}

module _ (opens : ℕ → ℕ → Bool → Type 0) (patience : Patience) (turns : ℕ) where
  -- The pass comes from the store still, has its numbers, and has seen what it had seen. Connections were served over it, beside
  -- each other, and their sessions ended so.
  pub record HasServed (store : StoreView) (worker : ℕ) (pass : PassView) (worked : Worked) : Type 0 where
    pub own : IsOf worked.pass store
    pub further : IsFurther worked.pass.seen pass.seen
    pub calls : ℕ
    pub served : ServedAll (WorkerAnswer opens worker) patience turns worked.ends (at_work store pass.seen 0) (at_work store worked.pass.seen calls)

  -- each worker in its place; the first has this number
  abbrev pub AllServed : StoreView → ℕ → List PassView → List Worked → Type 0
  AllServed store first [] [] = Unit {0}
  AllServed store first (pass ∷ passes) (worked ∷ all) = HasServed store first pass worked × AllServed store (suc first) passes all
  AllServed store first [] (worked ∷ all) = ⊥
  AllServed store first (pass ∷ passes) [] = ⊥

  module _ {E V : Type 0} (start : Bool → E → ConnectionView) (comes : V → ℕ → Arrival E → V → Type 0) where
    -- a worker has served, and followed all that came to it, up to a stop
    abbrev pub HasFollowed : StoreView → ℕ → PassView → V → Worked → Type 0
    HasFollowed store worker pass arrivals worked = (served : HasServed store worker pass worked) × ((end : V) × Brings start comes (served.served.news ++ IsToStop ∷ []) arrivals end)

    -- each worker in its place
    abbrev pub AllFollowed : StoreView → List PassView → List V → List Worked → Type 0
    AllFollowed store passes arrivals all = (i : ℕ) (pass : PassView) (v : V) (worked : Worked) → i < length passes
        → HasFollowed store i (get_or passes i pass) (get_or arrivals i v) (get_or all i worked)
