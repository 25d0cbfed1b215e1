-- Workers that ask a store through a gate.
use Rattle.std.specs.Prelude.{◌≡◌, ℕ, List, ◌++◌, Bool, Result}
use Rattle.map_core.specs.declared.op.Op.{Op}
use Rattle.map_core.specs.declared.reply.Reply.{Reply}
use Rattle.map_core.specs.declared.reply.AskError.{AskError}
use Rattle.wire.specs.Counted.{next_count}
use Rattle.shard_store.specs.declared.change.Change.{Change}
use Rattle.shard_store.specs.declared.change.Seen.{Seen}
use Rattle.shard_store.specs.Pass.{StoreView, SeatedView}
use Rattle.shard_store.specs.Seated.{SeatedAnswer}
use Rattle.workers.specs.Gate.{GatedAnswer}

-- t has the numbers that s had, and a log that begins with the one of s
abbrev pub IsFurther : Seen → Seen → Type 0
IsFurther t s = (t.ranges ≡ s.ranges) × (new : List Change) × (t.log ≡ s.log ++ new)

-- a pass at the store, and how many calls its worker has made
abbrev pub AtWork : Type 0
AtWork = SeatedView × ℕ

abbrev pub at_work : StoreView → Seen → ℕ → AtWork
at_work store seen calls = (record { store = store; seen = seen }, calls)

module _ (opens : ℕ → ℕ → Bool → Type 0) where
  -- The worker of this number makes its next call, through the gate, and the store answers.
  abbrev pub WorkerAnswer : ℕ → AtWork → Op → Result Reply AskError → AtWork → Type 0
  WorkerAnswer worker old op answer new =
      (new.1 ≡ next_count old.1) × GatedAnswer SeatedAnswer (opens worker new.1) old.0 op answer new.0
