use Rattle.std.proofs.Common.{◌≡◌, ℕ, Bool, true, false, get_or, set, Some, None, refl, sym, ap, subst, ◌∙◌}
use Rattle.std.specs.Vec.{with_items}
use Rattle.std.proofs.lemmas.List.{with_items_is}
use Rattle.step_core.specs.declared.driver.Running.{Running}
use Rattle.step_core.specs.declared.driver.Driver.{Driver}
use Rattle.step_core.specs.Phase.{wants}
use Rattle.step_core.specs.Records.{no_record}
use Rattle.step_core.specs.Task.{IsWantOf}
use Rattle.step_core.specs.Private.Progress.{is_out_of_memory}
use Rattle.step_core.specs.Private.Driver.{left_by, observation_by, with_wrote, update_positions, place_after}
use Rattle.step_core.specs.declared.task.Want.{Want}
use Rattle.step_core.proofs.Callers.{at_caller, at_caller_twice}
use Rattle.step_core.proofs.Driving.{stepped_shown, given_task, running_caller, op_at, known_record}
use Rattle.step_core.proofs.driver.Driver.step.Goals as goal

not_both : (b : Bool) → b ≡ true → b ≡ false → ⊥
not_both b t f = cc

pub returns-clause-acts : goal.returns-clause-acts
returns-clause-acts c = λ n rounds run h.
    let x : Running = c.in-Some.running in
    let y : Running = record { number = x.number; task = c.give.new.self; place = c.in_ok-running.field-0 } in
    let old : Driver = c.args.self.now in
    let new : Driver = record { alloc = old.alloc; rounds = old.rounds; shards = with_items old.shards c.observe.new.shards; callers = c.insert-2.new.self; ops = with_items old.ops c.mark.new.ops; points = c.repoint.new.points } in
    let own = running_caller n rounds old run c.args.caller x h (sym c.in-Some.ensures.value) in
    let want_is : c.wants-want.result ≡ wants x.task.phase = c.wants-want.ensures.want in
    let op = c.index.result.now.op in
    stepped_shown n rounds old new run c.args.caller x y op h
    (sym c.in-Some.ensures.value)
    (sym c.is_done.ensures ∙ c.if-is_done.false)
    (subst (λ (w : Want). IsWantOf n w) want_is (subst (λ (k : ℕ). IsWantOf k c.wants-want.result) (ap (λ v. v.shards) own.task) c.wants-want.ensures.inside))
    (op_at old.ops.items x.number c.index.result.now c.index.ensures (known_record n rounds old run c.args.caller x h own))
    refl
    (with_items_is old.shards c.observe.new.shards (c.observe.auto.shards ∙ c.deref_mut.ensures.len) ∙ c.in_ok-answer.ensures.left ∙ (λ i. left_by (c.deref_mut.ensures.value i) op (want_is i)))
    (at_caller_twice old.callers c.remove.new.self c.insert-2.new.self c.args.caller None (Some y) (at_caller old.callers c.remove.new.self c.args.caller None c.in-Some.ensures.updates)
    (at_caller c.remove.new.self c.insert-2.new.self c.args.caller (Some y) c.in_ok-insert-2.ensures.updates))
    refl
    (given_task n rounds _ x.task c.give.new.self _ _ _ own.task c.give.ensures.shards c.give.ensures.rounds c.give.ensures.known c.give.ensures.phase (λ e. not_both _ (c.is_out_of_memory.ensures ∙ ap is_out_of_memory e) c.if-is_out_of_memory.false)
    (c.in_ok-answer.ensures.observed ∙ (λ i. observation_by (c.deref_mut.ensures.value i) op (want_is i))))
    (with_items_is old.ops c.mark.new.ops (c.mark.auto.ops ∙ c.deref_mut-2.ensures.len) ∙ c.mark.ensures.marked ∙ (λ i. set (c.deref_mut-2.ensures.value i) x.number (with_wrote (get_or (c.deref_mut-2.ensures.value i) x.number no_record) (c.has_written.ensures i))))
    (c.in_ok-running.ensures.points ∙ (λ i. update_positions (c.has_point-had_point.ensures i) (c.has_point-has_point.ensures i) x.number x.place old.points.items))
    (c.in_ok-running.ensures.place ∙ (λ i. place_after (c.has_point-had_point.ensures i) (c.has_point-has_point.ensures i) x.place old.points.items))
