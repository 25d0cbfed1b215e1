use Rattle.std.proofs.Common.{◌/◌}
use Rattle.std.proofs.lemmas.Option.{IfSome_then}
use Rattle.shard_store.proofs.LastReads.{recalled, reads_later}
use Rattle.shard_store.proofs.store.Store.recall.Goals as goal

pub returns-clause-told : goal.returns-clause-told
returns-clause-told c = reads_later _ c.args.seat.now.me.0.seen c.look-revision.new.seat.me.0.seen _ c.look-revision.ensures.looked.1 c.requires.told

pub returns-clause-read : goal.returns-clause-read
returns-clause-read c = let look = c.look-revision.ensures in
    IfSome_then c.at.result c.at.ensures (λ r p. recalled c.args.self.now.id.slots c.args.shard (c.look-revision.result / 2) c.args.seat.now.me.0.seen c.look-revision.new.seat.me.0.seen c.args.last_reads.now.by_shard.items r.now look.looked.1
    c.requires.told p.0 p.1 look.found.0)
