use Rattle.std.proofs.Common.{sym, ◌∙◌}
use Rattle.shard_store.proofs.Promise.{later_then}
use Rattle.shard_store.proofs.Readings.{still_more}
use Rattle.shard_store.proofs.store.Store.confirm_all.Goals as goal

pub returns-then-second-first-clause-looked : goal.returns-then-second-first-clause-looked
returns-then-second-first-clause-looked c = let look = c.look-second.ensures.looked in (look.0, later_then c.args.seat.now.me.0.seen c.loop-shard.seat.me.0.seen c.look-second.new.seat.me.0.seen c.loop-shard.invariant.looked.1 look.1)

pub loop-shard-preserved : goal.loop-shard-preserved
loop-shard-preserved c = let i = c.loop-shard.invariant in let look = c.look-second.ensures in let s = c.args.seat.now.me.0.seen in let u = c.look-second.new.seat.me.0.seen in
    let l = later_then s c.loop-shard.seat.me.0.seen u i.looked.1 look.looked.1 in record {
      looked = (look.looked.0, l);
      still = still_more _ c.loop-shard.shard s u c.args.revisions.now l (sym look.found.0 ∙ c.if-second-first.false) i.still;
    }
