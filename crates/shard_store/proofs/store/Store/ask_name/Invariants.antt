use Rattle.std.proofs.Common.{◌≡◌, ◌<◌}
use Rattle.shard_store.specs.Promise.{IsLater}
use Rattle.shard_store.specs.Private.Seat.{Missed}
use Rattle.shard_store.specs.Private.Desk.{IsReady}
use Rattle.shard_store.proofs.store.Store.ask_name.Given as goal

abbrev pub invariant-loop : goal.invariant-loop
invariant-loop l = record {
  failed : l.failed ≡ l.counter;
  ready : IsReady l.fn.self.id l.desk;
  later : IsLater l.desk.seat.me.0.seen l.fn.desk.seat.me.0.seen;
  tally : l.tally ≡ l.fn.tally;
  missed : 0 < l.counter → Missed l.fn.self.id.slots l.shard l.fn.desk.seat.me.0.seen l.word l.desk.seat.me.0.seen;
}
