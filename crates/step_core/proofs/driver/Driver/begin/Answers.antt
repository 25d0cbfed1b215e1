use Rattle.std.proofs.Common.{false, refl, sym, ◌∙◌, ◌≡◌, Option, None, Some, is_some, length, rules}
use Rattle.step_core.specs.declared.trace.OpRecord.{OpRecord}
use Rattle.step_core.specs.declared.driver.Running.{Running}
use Rattle.step_core.specs.declared.driver.Driver.{Driver}
use Rattle.map_core.specs.Op.{known_of}
use Rattle.step_core.specs.Phase.{start_phase}
use Rattle.step_core.proofs.Callers.{at_caller}
use Rattle.step_core.proofs.Driving.{begun_shown}
use Rattle.step_core.proofs.driver.Driver.begin.Goals as goal

none_there : {X : Type 0} → (o : Option X) → is_some o ≡ false → o ≡ None
none_there None h = refl
none_there (Some x) h = cc h

pub returns-clause-acts : goal.returns-clause-acts
returns-clause-acts c = λ n rounds run time h.
    let old : Driver = c.args.self.now in
    let new : Driver = record { alloc = old.alloc; rounds = old.rounds; shards = old.shards; callers = c.insert.new.self; ops = c.push.new.self; points = old.points } in
    let x : Running = record { number = c.len-number.result; task = c.in_ok-task.task; place = 0 } in
    let entry : OpRecord = record { caller = c.args.caller; op = c.in_ok-copy.field-0; first = c.args.now; last = None; reply = None; wrote = false } in
    let number : c.len-number.result ≡ length old.ops.items = search rules in
    let size : c.len.result ≡ n = (let len : c.len.result ≡ length old.shards.items = search rules in len ∙ h.shards.size) in
    begun_shown n rounds old new run c.args.caller c.args.op.now x entry h (none_there _ (sym c.contains_key.ensures ∙ c.if-contains_key.false)) refl refl
    (at_caller old.callers c.insert.new.self c.args.caller (Some x) c.in_ok-insert.ensures.updates)
    number
    (c.in_ok-task.ensures ∙ (λ i. record { shards = size i; rounds = h.rounds_are i; known = known_of c.args.op.now; phase = start_phase (size i) c.args.op.now }))
    c.in_ok-push.ensures.items
    (λ i. record { caller = c.args.caller; op = c.in_ok-copy.ensures i; first = sym time i; last = None; reply = None; wrote = false })
    refl
