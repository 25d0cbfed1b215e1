use Rattle.std.proofs.Common.{length, rules, ap, ◌∙◌}
use Rattle.std.specs.Arc.{arc_value}
use Rattle.map_core.specs.PlainMap.{union, partition, merge}
use Rattle.shard_store.proofs.Together.{together_none, together_more, together_all}
use Rattle.shard_store.proofs.Closed.{whole_index}
use Rattle.shard_store.proofs.parts.join_parts.Goals as goal

pub loop-part-init : goal.loop-part-init
loop-part-init c = λ m p. c.new-all.ensures ∙ together_none (length c.args.parts.now) m

pub loop-part-preserved : goal.loop-part-preserved
loop-part-preserved c = λ m p. let version = c.part-item.result in
    together_more c.loop-part.part-index (length c.args.parts.now) m c.loop-part.all (arc_value version) c.in_ok-all.all (c.loop-part.invariant m p)
    (ap arc_value c.part-item.is ∙ p c.loop-part.part-index version c.loop-part-test.true)
    (c.in_ok-all.ensures ∙ ap (union c.loop-part.all) c.deref.ensures)

pub returns : goal.returns
returns c = λ m p. c.loop-part.invariant m p
    ∙ (ap (λ k. merge k (partition (length c.args.parts.now) m)) (whole_index c.loop-part.part-index (length c.args.parts.now) (search rules) c.loop-part-test.false) ∙ together_all (length c.args.parts.now) m c.requires)
