use Rattle.std.proofs.Common.{◌<◌, ◌≤◌, ◌+◌, length}
use Rattle.shard_store.specs.Promise.{IsLater, HasMoved}
use Rattle.shard_store.specs.Private.Desk.{IsReady}
use Rattle.shard_store.proofs.store.Store.fetch_parts.Given as goal

abbrev pub invariant-loop : goal.invariant-loop
invariant-loop l = record {
  ready : IsReady l.fn.self.id l.desk;
  later : IsLater l.desk.seat.me.0.seen l.fn.desk.seat.me.0.seen;
  moved : 0 < l.counter → (l.last.shard < l.fn.self.id.slots) × HasMoved l.fn.self.id.slots l.fn.desk.seat.me.0.seen l.desk.seat.me.0.seen l.last.shard l.last.first l.last.second;
  more : length l.fn.desk.seat.me.0.seen.log + l.counter ≤ length l.desk.seat.me.0.seen.log;
}
