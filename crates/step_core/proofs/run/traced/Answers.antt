use Rattle.std.proofs.Common.{◌<◌, ℕ, get_or, take, sym, ap, subst, ◌∙◌}
use Rattle.std.proofs.lemmas.List.{take_all}
use Rattle.std.specs.Prelude.{filter}
use Rattle.step_core.specs.Run.{run_of}
use Rattle.step_core.specs.Records.{took_effect, no_record}
use Rattle.step_core.specs.Private.Driver.{positions}
use Rattle.step_core.specs.Private.Shown.{IsShown}
use Rattle.step_core.proofs.Driven.{next_shown, shown_records, shown_order, witness}
use Rattle.step_core.proofs.run.traced.Goals as goal

pub loop-now-init : goal.loop-now-init
loop-now-init c = c.in_ok-driver.ensures

pub act-requires-clause-rounds : goal.act-requires-clause-rounds
act-requires-clause-rounds c = subst (λ (k : ℕ). 0 < k) (sym c.loop-now.invariant.rounds_are) c.requires.rounds

pub act-requires-clause-shown : goal.act-requires-clause-shown
act-requires-clause-shown c = witness c.args.shards c.args.rounds c.loop-now.driver _ c.loop-now.invariant

pub loop-now-preserved : goal.loop-now-preserved
loop-now-preserved c =
    next_shown c.args.shards c.args.rounds c.args.events.now c.loop-now.now c.act.new.self c.index-events-now.result c.index-events-now.is c.loop-now-test.true
    (λ time. c.in_ok-act.ensures.acts c.args.shards c.args.rounds (run_of c.args.shards c.args.rounds (take c.loop-now.now c.args.events.now)) time c.loop-now.invariant)

pub returns-clause-ops : goal.returns-clause-ops
returns-clause-ops c =
    shown_records c.args.shards c.args.rounds c.loop-now.driver c.args.events.now (subst (λ es. IsShown c.args.shards c.args.rounds c.loop-now.driver (run_of c.args.shards c.args.rounds es)) (take_all c.loop-now.now c.args.events.now c.loop-now-test.false) c.loop-now.invariant)

pub returns-clause-order : goal.returns-clause-order
returns-clause-order c =
    c.in_ok-order.ensures
    ∙ (λ i. filter (λ q. took_effect (get_or (c.deref-2.ensures.value i) q no_record)) ((c.deref-3.ensures.value ∙ c.in_ok-numbers.ensures ∙ ap positions c.deref.ensures.value) i))
    ∙ shown_order c.args.shards c.args.rounds c.loop-now.driver c.args.events.now c.requires.shards (subst (λ es. IsShown c.args.shards c.args.rounds c.loop-now.driver (run_of c.args.shards c.args.rounds es)) (take_all c.loop-now.now c.args.events.now c.loop-now-test.false) c.loop-now.invariant)
