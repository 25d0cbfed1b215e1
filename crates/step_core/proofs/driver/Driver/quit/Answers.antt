use Rattle.std.proofs.Common.{false, get_or, set, None, Err, refl, sym, ◌∙◌}
use Rattle.std.specs.Vec.{with_items}
use Rattle.std.proofs.lemmas.List.{with_items_is}
use Rattle.step_core.specs.declared.driver.Running.{Running}
use Rattle.step_core.specs.declared.driver.Driver.{Driver}
use Rattle.step_core.specs.Records.{no_record}
use Rattle.step_core.specs.Private.Driver.{with_wrote, with_end, update_positions}
use Rattle.step_core.proofs.Callers.{at_caller}
use Rattle.step_core.proofs.Driving.{quit_shown}
use Rattle.step_core.proofs.driver.Driver.quit.Goals as goal

pub returns-clause-acts : goal.returns-clause-acts
returns-clause-acts c = λ n rounds run time h.
    let x : Running = c.in-Some.running in
    let old : Driver = c.args.self.now in
    let new : Driver = record { alloc = old.alloc; rounds = old.rounds; shards = old.shards; callers = c.remove.new.self; ops = with_items (with_items old.ops c.mark.new.ops) c.finish.new.ops; points = c.repoint.new.points } in
    let mid = c.mark.new.ops in
    let mid_items = c.deref_mut-2.ensures.value ∙ with_items_is old.ops c.mark.new.ops (c.mark.auto.ops ∙ c.deref_mut.ensures.len) in
    quit_shown n rounds old new run c.args.caller x c.args.why c.args.now h time (sym c.in-Some.ensures.value) (sym c.is_done.ensures ∙ c.if-is_done.false) refl refl
    (at_caller old.callers c.remove.new.self c.args.caller None c.in-Some.ensures.updates)
    mid
    (c.mark.ensures.marked ∙ (λ i. set (c.deref_mut.ensures.value i) x.number (with_wrote (get_or (c.deref_mut.ensures.value i) x.number no_record) false)))
    (with_items_is (with_items old.ops c.mark.new.ops) c.finish.new.ops (c.finish.auto.ops ∙ c.deref_mut-2.ensures.len) ∙ c.finish.ensures.ended ∙ (λ i. set (mid_items i) x.number (with_end (get_or (mid_items i) x.number no_record) c.args.now (Err (c.refusal_of.ensures i)))))
    (c.in_ok-repoint.ensures.points ∙ (λ i. update_positions (c.has_point-had_point.ensures i) false x.number x.place old.points.items))
