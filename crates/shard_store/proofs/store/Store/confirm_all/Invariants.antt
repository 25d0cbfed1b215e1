use Rattle.std.proofs.Common.{ℕ, ◌<◌, ◌≤◌, get_or}
use Rattle.shard_store.specs.Changes.{count}
use Rattle.shard_store.specs.Private.Seat.{HasLooked}
use Rattle.shard_store.proofs.store.Store.confirm_all.Given as goal

abbrev pub invariant-loop-shard : goal.invariant-loop-shard
invariant-loop-shard l = record {
  looked : HasLooked l.fn.self.id l.fn.seat l.seat;
  still : (k : ℕ) → k < l.shard → count l.fn.self.id.slots l.fn.seat.me.0.seen.log k ≤ get_or l.revisions k 0;
}
