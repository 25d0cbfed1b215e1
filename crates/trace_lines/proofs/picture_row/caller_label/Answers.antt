use Rattle.std.proofs.Common.{◌++◌, length, arith, ap, ◌∙◌}
use Rattle.std.specs.Prelude.{decimal}
use Rattle.std.proofs.lemmas.Fmt.{length-decimal-le}
use Rattle.trace_lines.proofs.picture_row.caller_label.Goals as goal

pub overflow_sub-room : goal.overflow_sub-room
overflow_sub-room c =
    let few = length-decimal-le 10 c.args.caller (omega arith) (omega (arith, c.ranges.caller.fits)) (omega (arith, c.ranges.caller.fits)) in
    let is = ap length (c.put_number.ensures.items ∙ (λ i. c.head_of-line.ensures i ++ decimal (c.from.ensures i))) in
    omega (arith, c.len-room.ensures.value, is, few)

pub returns-clause-few : goal.returns-clause-few
returns-clause-few c =
    let few = length-decimal-le 10 c.args.caller (omega arith) (omega (arith, c.ranges.caller.fits)) (omega (arith, c.ranges.caller.fits)) in
    let is = ap length (c.put_number.ensures.items ∙ (λ i. c.head_of-line.ensures i ++ decimal (c.from.ensures i))) in
    omega (arith, c.len-room.ensures.value, c.put_spaces.ensures.few, is, few)
