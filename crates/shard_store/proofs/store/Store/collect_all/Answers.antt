use Rattle.map_core.specs.declared.op.Op.TheVariants.{FetchAll}
use Rattle.map_core.specs.declared.reply.AskError.TheVariants.{Memory}
use Rattle.std.proofs.Common.{◌+◌, [], ◌∷◌, length, length-append, ap, ◌∙◌}
use Rattle.shard_store.proofs.Promise.{later_then, refused_since, error_passed}
use Rattle.shard_store.proofs.Readings.{read_now, read_more}
use Rattle.shard_store.proofs.store.Store.collect_all.Goals as goal

pub returns-in_err-push-clause-read : goal.returns-in_err-push-clause-read
returns-in_err-push-clause-read c = error_passed c.from_residual-in_err-push.result Memory _ _ c.from_residual-in_err-push.ensures.1
    (later_then c.args.desk.now.seat.me.0.seen c.loop-shard.desk.seat.me.0.seen c.collect.new.desk.seat.me.0.seen c.loop-shard.invariant.later c.in_ok-read.ensures.read.0)

pub returns-in_err-read-clause-read : goal.returns-in_err-read-clause-read
returns-in_err-read-clause-read c = let e = c.in_err-read.field-0.0 in
    error_passed c.from_residual.result e _ _ c.from_residual.ensures.1 (refused_since _ FetchAll c.args.desk.now.seat.me.0.seen c.loop-shard.desk.seat.me.0.seen c.collect.new.desk.seat.me.0.seen e c.loop-shard.invariant.later c.in_err-read.ensures.read)

pub loop-shard-preserved : goal.loop-shard-preserved
loop-shard-preserved c = let i = c.loop-shard.invariant in let r = c.in_ok-read.ensures.read in let s = c.args.desk.now.seat.me.0.seen in let t = c.loop-shard.desk.seat.me.0.seen in let u = c.collect.new.desk.seat.me.0.seen in
    let l = later_then s t u i.later r.0 in let read = c.in_ok-read.read in record {
      ready = c.collect.ensures.ready;
      later = l;
      so_far = ap length c.in_ok-push.ensures.versions ∙ length-append c.loop-shard.readings.versions.items (read.version ∷ []) ∙ ap (λ k. k + 1) i.so_far;
      read = read_more _ c.loop-shard.shard s.log t u c.loop-shard.readings.revisions.items _ c.loop-shard.readings.versions.items _ read.revision read.version r.0 c.in_ok-push.ensures.revisions c.in_ok-push.ensures.versions i.so_far i.read
          (read_now _ c.loop-shard.shard s u read.revision read.version l r.1.0 r.1.1);
    }
