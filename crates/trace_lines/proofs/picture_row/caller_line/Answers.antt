use Rattle.std.proofs.Common.{◌≡◌, ◌-◌, [], ◌∷◌, ◌++◌, map, arith, ap, ◌∙◌}
use Rattle.std.specs.Prelude.{codes, decimal}
use Rattle.std.specs.List.{range_with_len}
use Rattle.trace_lines.specs.Picture.{label, caller_mark}
use Rattle.trace_lines.proofs.Pictures.{columns_more, columns_none, caller_is}
use Rattle.trace_lines.proofs.picture_row.caller_line.Goals as goal

pub loop-event-init : goal.loop-event-init
loop-event-init c = (
  c.caller_label-line.ensures.items ∙ columns_none (label (codes "caller " ++ decimal c.args.caller)) (caller_mark c.args.records.now c.args.caller) c.args.from,
  omega (arith, c.caller_label-line.ensures.few),
  omega arith,
)

pub loop-event-preserved : goal.loop-event-preserved
loop-event-preserved c =
    let so = c.loop-event.invariant in
    let mark = caller_mark c.args.records.now c.args.caller in (
      c.push.ensures.items ∙ (λ i. so.0 i ++ c.caller_mark.ensures i ∷ []) ∙ columns_more (label (codes "caller " ++ decimal c.args.caller)) mark c.args.from c.loop-event.event so.2,
      omega (arith, c.push.ensures.len, so.1, so.2),
      omega (arith, so.2),
    )

pub returns : goal.returns
returns c =
    let so = c.loop-event.invariant in
    let e : c.loop-event.event - c.args.from ≡ c.args.width = omega (arith, c.loop-event-test.false, c.loop-event.auto.event, so.2) in
    so.0 ∙ ap (λ n. label (codes "caller " ++ decimal c.args.caller) ++ map (caller_mark c.args.records.now c.args.caller) (range_with_len c.args.from n)) e
    ∙ caller_is c.args.records.now c.args.from c.args.width c.args.caller
