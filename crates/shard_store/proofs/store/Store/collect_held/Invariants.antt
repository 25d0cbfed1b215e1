use Rattle.std.proofs.Common.{◌≡◌, ◌<◌}
use Rattle.shard_store.specs.Private.Seat.{Missed, HasLooked}
use Rattle.shard_store.proofs.store.Store.collect_held.Given as goal

abbrev pub invariant-loop : goal.invariant-loop
invariant-loop l = record {
  failed : l.failed ≡ l.counter;
  looked : HasLooked l.fn.self.id l.fn.seat l.seat;
  missed : 0 < l.counter → Missed l.fn.self.id.slots l.shard l.fn.seat.me.0.seen l.word l.seat.me.0.seen;
}
