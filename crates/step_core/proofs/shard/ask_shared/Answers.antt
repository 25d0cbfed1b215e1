use Rattle.std.proofs.Common.{◌≡◌, true, false, Option, Some, None, MatchOption, sym, ap, subst, ◌∙◌}
use Rattle.std.specs.Arc.{arc_value}
use Rattle.map_core.specs.declared.op.Op.{Op}
use Rattle.map_core.specs.declared.reply.Reply.{Reply}
use Rattle.map_core.specs.PlainMap.{PlainMap, ask}
use Rattle.map_core.specs.Reply.{is_change}
use Rattle.map_core.proofs.MapLaws.{ask_keeps}
use Rattle.step_core.proofs.shard.ask_shared.Goals as goal
use Rattle.step_core.proofs.shard.ask_shared.Goals.{in-Some+in-Ok, in_default}

-- what is told of a map that is there, and of one that is not
told : (reply : Reply) (after : Option PlainMap) (m n : PlainMap) → MatchOption after (is_change reply ≡ false) (λ x. (is_change reply ≡ true) × (x ≡ n)) → after ≡ Some m → m ≡ n
told reply after m n h is = (subst (λ (o : Option PlainMap). MatchOption o (is_change reply ≡ false) (λ x. (is_change reply ≡ true) × (x ≡ n))) is h).1

quiet : (reply : Reply) (after : Option PlainMap) (n : PlainMap) → MatchOption after (is_change reply ≡ false) (λ x. (is_change reply ≡ true) × (x ≡ n)) → after ≡ None → is_change reply ≡ false
quiet reply after n h is = subst (λ (o : Option PlainMap). MatchOption o (is_change reply ≡ false) (λ x. (is_change reply ≡ true) × (x ≡ n))) is h

pub returns-clause-left : goal.returns-clause-left
returns-clause-left c =
    let op : Op = c.args.op.now in
    let part : PlainMap = arc_value c.args.version.now in
    let here : c.deref.result.now ≡ part = c.deref.ensures in
    let reply : c.in_ok-reply.reply ≡ (ask part op).reply = c.in_ok-reply.ensures.reply ∙ ap (λ (m : PlainMap). (ask m op).reply) here in
    elim c.match-after.branch [
      | in-Some+in-Ok w ↦ ap arc_value w.version-is ∙ w.in-Ok.ensures.ok ∙ told c.in_ok-reply.reply c.in_ok-reply.after _ _ c.in_ok-reply.ensures.left w.in-Some.is ∙ ap (λ (m : PlainMap). (ask m op).map) here
      | in_default w ↦ ap arc_value w.version-is ∙ sym (ask_keeps part op (ap is_change (sym reply) ∙ quiet c.in_ok-reply.reply c.in_ok-reply.after _ c.in_ok-reply.ensures.left w.in_default.is))
    ]
