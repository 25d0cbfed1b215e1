use Rattle.std.proofs.Common.{◌≡◌, ◌+◌, ◌≤◌, List, [], ◌∷◌, ◌++◌, length, ap, sym, subst, ◌∙◌, eqb-true, arith, rules, length-append}
use Rattle.step_core.specs.declared.event.Event.{Event}
use Rattle.trace_lines.specs.Events.{AreEvents}
use Rattle.trace_lines.proofs.EventLines.{event_found}
use Rattle.trace_lines.proofs.EventLists.{empty_is, all_events, one_event_more, first_bad, no_event}
use Rattle.trace_lines.proofs.events.read_events.Goals as goal

pub returns-in-Err-NoEvent-clause-err : goal.returns-in-Err-NoEvent-clause-err
returns-in-Err-NoEvent-clause-err c =
    let so = c.loop-rest.invariant in
    let count : c.len.result ≡ length c.loop-rest.events.items = search rules in
    first_bad c.args.input.now c.loop-rest.rest.now so.0 c.loop-rest.events.items so.1 so.2 c.split_line.result.0.now c.split_line.result.1.now c.split_line.ensures.first
    (c.len.result + 1) (ap (λ n. n + 1) count) (no_event c.in-Err-NoEvent.field-0 _ c.in-Err-NoEvent.ensures c.in-Err-NoEvent.field-0-is)

pub loop-rest-preserved : goal.loop-rest-preserved
loop-rest-preserved c =
    let so = c.loop-rest.invariant in
    let line = c.split_line.result.0.now in
    let pushed : c.push.new.self.items ≡ c.loop-rest.events.items ++ c.in-Ok.event ∷ [] = search rules in
    let more = one_event_more c.args.input.now c.loop-rest.rest.now so.0 c.loop-rest.events.items so.1 so.2 line c.split_line.result.1.now c.split_line.ensures.first
    c.in-Ok.event (event_found line c.in-Ok.event c.in-Ok.ensures) in
    let few : length c.push.new.self.items + length c.split_line.result.1.now ≤ length c.args.input.now = omega (arith, so.3, c.split_line.ensures.less, ap length pushed, length-append c.loop-rest.events.items (c.in-Ok.event ∷ [])) in
    (more.0, more.1, subst (λ (events : List Event). AreEvents more.0 events) (sym pushed) more.2, few)

pub returns-clause-ok : goal.returns-clause-ok
returns-clause-ok c =
    let so = c.loop-rest.invariant in
    let none = empty_is c.loop-rest.rest.now (eqb-true (length c.loop-rest.rest.now) 0 (sym c.is_empty.ensures ∙ c.loop-rest-test.false)) in
    all_events c.args.input.now c.loop-rest.rest.now so.0 c.loop-rest.events.items so.1 so.2 none
