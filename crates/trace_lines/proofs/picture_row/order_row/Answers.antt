use Rattle.std.proofs.Common.{◌≡◌, ◌-◌, [], ◌∷◌, ◌++◌, map, arith, ap, ◌∙◌}
use Rattle.std.specs.Prelude.{codes}
use Rattle.std.specs.List.{range_with_len}
use Rattle.trace_lines.specs.Picture.{order_mark}
use Rattle.trace_lines.proofs.Pictures.{columns_more, order_is}
use Rattle.trace_lines.proofs.picture_row.order_row.Goals as goal

pub loop-event-preserved : goal.loop-event-preserved
loop-event-preserved c =
    let so = c.loop-event.invariant in
    let mark = order_mark c.args.records.now c.args.order.now in (
      c.push.ensures.items ∙ (λ i. so.0 i ++ c.order_mark.ensures i ∷ []) ∙ columns_more (codes "order             ") mark c.args.from c.loop-event.event so.2,
      omega (arith, c.push.ensures.len, so.1, so.2),
      omega (arith, so.2),
    )

pub returns : goal.returns
returns c =
    let so = c.loop-event.invariant in
    let e : c.loop-event.event - c.args.from ≡ c.args.width = omega (arith, c.loop-event-test.false, c.loop-event.auto.event, so.2) in
    so.0 ∙ ap (λ n. codes "order             " ++ map (order_mark c.args.records.now c.args.order.now) (range_with_len c.args.from n)) e ∙ order_is c.args.records.now c.args.order.now c.args.from c.args.width
