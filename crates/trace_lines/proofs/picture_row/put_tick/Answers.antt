use Rattle.std.proofs.Common.{length, arith, ap, ◌∙◌, length-append}
use Rattle.std.proofs.lemmas.Fmt.{length-decimal-le}
use Rattle.trace_lines.proofs.picture_row.put_tick.Goals as goal

pub overflow_sub-len : goal.overflow_sub-len
overflow_sub-len c =
    let few = length-decimal-le 4 c.args.event (omega arith) c.requires.few (omega (arith, c.requires.few)) in
    let is = ap length c.number_of-number.ensures in
    omega (arith, c.len.ensures.value, few, is)

pub put-requires : goal.put-requires
put-requires c =
    let few = length-decimal-le 4 c.args.event (omega arith) c.requires.few (omega (arith, c.requires.few)) in
    let is = ap length (c.as_slice.ensures.value ∙ c.number_of-number.ensures) in
    omega (arith, c.put_spaces.ensures.few, c.requires.room, few, is)

pub returns-clause-few : goal.returns-clause-few
returns-clause-few c =
    let few = length-decimal-le 4 c.args.event (omega arith) c.requires.few (omega (arith, c.requires.few)) in
    let number = ap length c.number_of-number.ensures in
    let is = ap length (c.as_slice.ensures.value ∙ c.number_of-number.ensures) in
    let all = ap length c.put.ensures ∙ length-append c.put_spaces.new.line.items c.as_slice.result.now in
    omega (arith, c.put_spaces.ensures.few, c.len.ensures.value, few, is, number, all)
