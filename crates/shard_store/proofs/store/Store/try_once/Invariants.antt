use Rattle.shard_store.specs.Private.Seat.{change_by}
use Rattle.shard_store.proofs.store.Store.try_once.Given as goal

abbrev pub ghosts-let_go_changed : goal.ghosts-let_go_changed
ghosts-let_go_changed a = record { change = change_by a.op.now a.seat.now.me.0.seen }
