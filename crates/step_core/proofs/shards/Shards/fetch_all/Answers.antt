use Rattle.std.proofs.Common.{◌≡◌, ◌<◌, List, length, ap, ◌∙◌, subst, arith, rules}
use Rattle.step_core.specs.Shard.{ShardVersion}
use Rattle.step_core.proofs.Alone.{begun_at_none, answered_alone}
use Rattle.step_core.proofs.shards.Shards.fetch_all.Goals as goal

pub loop-shard-init : goal.loop-shard-init
loop-shard-init c =
    let some = subst (λ (x : List ShardVersion). 0 < length x) c.self.view_is c.self.invariant.some in
    begun_at_none c.len.result c.args.self.now c.args.op.now c.in_ok-task.task some (search rules) c.requires.all c.in_ok-task.ensures

pub returns-clause-reply : goal.returns-clause-reply
returns-clause-reply c =
    let all : length c.deref-shard-items-2.result.now ≡ length c.args.self.now = ap length (c.deref-shard-items-2.ensures.value ∙ c.self.view_is) in
    answered_alone c.args.self.now c.args.op.now c.loop-shard-2.task c.loop-shard-2.shard-index c.reply.result c.requires.all
    (omega (arith, all, c.loop-shard-2.auto.shard-index-end, c.loop-shard-2-test.false)) c.loop-shard-2.invariant c.reply.ensures
