use Rattle.std.proofs.Common.{length, rules, sym, ap, ◌∙◌}
use Rattle.std.proofs.lemmas.Result.{IfOk-weaker}
use Rattle.std.specs.Arc.{arc_value}
use Rattle.map_core.specs.PlainMap.{union, partition, merge}
use Rattle.shard_store.proofs.Together.{together_none, together_more, together_all, same_version, not_empty}
use Rattle.shard_store.proofs.Closed.{whole_index}
use Rattle.shard_store.proofs.close.join_slots.Goals as goal
use Rattle.shard_store.proofs.close.join_slots.Goals.{in-Some+in_ok-all, in_default}

pub loop-slot-init : goal.loop-slot-init
loop-slot-init c = λ m p. c.new-all.ensures ∙ together_none (length c.args.slots.now) m

pub loop-slot-preserved : goal.loop-slot-preserved
loop-slot-preserved c = λ m p. let slot = c.slot-item.result in let here = p c.loop-slot.slot-index slot c.loop-slot-test.true in
    let is = c.slot-item.is ∙ here.1 in
    elim c.match-slot.branch [
      | in-Some+in_ok-all w ↦ w.all-is ∙ together_more c.loop-slot.slot-index (length c.args.slots.now) m c.loop-slot.all (arc_value here.0) w.in_ok-all.all (c.loop-slot.invariant m p) here.2
          (w.in_ok-all.ensures ∙ ap (union c.loop-slot.all) (w.deref.ensures ∙ same_version _ _ (sym w.in-Some.is ∙ is)))
      | in_default w ↦ absurd (not_empty _ (sym w.in_default.is ∙ is))
    ]

pub returns : goal.returns
returns c = λ m p. IfOk-weaker c.into_contents.result _ _
    (λ all is. is ∙ c.loop-slot.invariant m p
    ∙ (ap (λ k. merge k (partition (length c.args.slots.now) m)) (whole_index c.loop-slot.slot-index (length c.args.slots.now) (search rules) c.loop-slot-test.false) ∙ together_all (length c.args.slots.now) m c.requires))
    c.into_contents.ensures
