-- What workers give back that serve one session after the other.
use Rattle.std.specs.Prelude.{ℕ, suc, List, [], ◌∷◌, Bool, Option, Result}
use Rattle.wire.specs.declared.counted.Counted.{Counted}
use Rattle.shard_store.specs.Pass.{StoreView, PassView, IsOf}
use Rattle.workers.specs.Sessions.{ServedAll}
use Rattle.workers.specs.Workers.{IsFurther, WorkerAnswer, at_work}
use Rattle.workers.specs.Ended.{kept_of}
use Rattle.workers.specs.declared.ended.Worked.{Worked}
use Rattle.workers.specs.declared.run.Finished.{Finished}
use Rattle.workers.specs.declared.sessions.ListenFault.{ListenFault}
use Rattle.workers.specs.declared.session.Session.{Session}

module _ (opens : ℕ → ℕ → Bool → Type 0) {V R W : Type 0} (remaining : R → Option (List ℕ)) (contents : W → Option (List ℕ)) (takes_back : V → Counted R → Counted W → V → Type 0)
    (comes : V → Result (Option (Session R W)) ListenFault → V → Type 0) where
  -- The pass comes from the store still, has its numbers, and has seen what it had seen. All sessions that came to the worker
  -- were served over it, one after the other, and ended so.
  pub record HasWorked (store : StoreView) (worker : ℕ) (pass : PassView) (sessions : V) (finished : Finished) : Type 0 where
    pub own : IsOf finished.pass store
    pub further : IsFurther finished.pass.seen pass.seen
    pub calls : ℕ
    pub end : V
    pub served : ServedAll (WorkerAnswer opens worker) remaining contents takes_back comes finished.results.items (sessions, at_work store pass.seen 0) (end, at_work store finished.pass.seen calls)

  -- each worker in its place; the first has this number
  abbrev pub AllWorked : StoreView → ℕ → List PassView → List V → List Finished → Type 0
  AllWorked store first [] [] [] = Unit {0}
  AllWorked store first (pass ∷ passes) (v ∷ sessions) (finished ∷ all) = HasWorked store first pass v finished × AllWorked store (suc first) passes sessions all
  AllWorked store first passes sessions all = ⊥

-- what is kept of what a worker gave back
abbrev pub kept : Finished → Worked
kept finished = record { pass = finished.pass; ends = kept_of finished.results.items }
