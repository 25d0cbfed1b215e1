use Rattle.std.proofs.Common.{◌≡◌, length}
use Rattle.shard_store.specs.Promise.{IsLater}
use Rattle.shard_store.specs.Private.Desk.{IsReady}
use Rattle.shard_store.specs.Private.Readings.{WereRead}
use Rattle.shard_store.proofs.store.Store.collect_all.Given as goal

abbrev pub invariant-loop-shard : goal.invariant-loop-shard
invariant-loop-shard l = record {
  ready : IsReady l.fn.self.id l.desk;
  later : IsLater l.desk.seat.me.0.seen l.fn.desk.seat.me.0.seen;
  so_far : length l.readings.versions.items ≡ l.shard;
  read : WereRead l.fn.self.id.slots l.fn.desk.seat.me.0.seen.log l.desk.seat.me.0.seen.log l.readings.revisions.items l.readings.versions.items;
}
