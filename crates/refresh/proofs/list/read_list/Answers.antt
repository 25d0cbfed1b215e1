use Rattle.std.proofs.Common.{rules, subst, arith, length, ◌<◌, ◌^◌}
use borrow.Author.Tests.{tests}
use Rattle.refresh.proofs.ListLines.{SoFar, next_line, one_line, bad_line}
use Rattle.refresh.proofs.list.read_list.Goals as goal

pub loop-line-preserved : goal.loop-line-preserved
loop-line-preserved c =
    let first = next_line _ c.loop-line.line-iterator c.next.new.self c.in-Some.line c.in-Some.ensures.steps (λ x b q k. search (rules, tests)) in
    let short : length c.args.list.now < 2 ^ 63 = omega arith in
    let so_far = subst (λ left. SoFar c.args.list.now left c.loop-line.number c.loop-line.relationships.items) first c.loop-line.invariant.2 in
    (search rules, search rules, one_line _ _ _ _ _ _ so_far short c.saturating_add-number.ensures _ c.in_default.ensures.ok, c.in_default.ensures.known)

pub returns-in-Err-clause-err : goal.returns-in-Err-clause-err
returns-in-Err-clause-err c =
    let first = next_line _ c.loop-line.line-iterator c.next.new.self c.in-Some.line c.in-Some.ensures.steps (λ x b q k. search (rules, tests)) in
    let short : length c.args.list.now < 2 ^ 63 = omega arith in
    let so_far = subst (λ left. SoFar c.args.list.now left c.loop-line.number c.loop-line.relationships.items) first c.loop-line.invariant.2 in
    bad_line _ _ _ _ _ _ so_far short c.saturating_add-number.ensures c.in-Err.error c.in-Err.ensures.err
