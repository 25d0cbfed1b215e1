use Rattle.shard_store.specs.Private.Seat.{change_by}
use Rattle.shard_store.proofs.store.Store.store_version.Given as goal

abbrev pub ghosts-publish : goal.ghosts-publish
ghosts-publish a = record { change = change_by a.op.now a.seat.now.me.0.seen }
