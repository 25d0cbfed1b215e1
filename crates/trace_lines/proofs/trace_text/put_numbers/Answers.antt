use Rattle.std.proofs.Common.{◌≡◌, ◌+◌, ◌++◌, drop}
use Rattle.std.proofs.lemmas.List.{at_drop_more}
use Rattle.std.proofs.Common.{get_or}
use Rattle.std.specs.List.{flat_map}
use Rattle.trace_lines.specs.TraceText.{number_word}
use Rattle.trace_lines.proofs.Writes.{hands_on, goes_on, stops}
use Rattle.trace_lines.proofs.trace_text.put_numbers.Goals as goal

pub returns-in_err-put_next : goal.returns-in_err-put_next
returns-in_err-put_next g c =
    let so = c.loop-number.invariant in
    let rest = flat_map number_word (drop (c.loop-number.number-index + 1) c.args.numbers.now) in
    let cut : flat_map number_word (drop c.loop-number.number-index c.args.numbers.now) ≡ number_word (get_or c.args.numbers.now c.loop-number.number-index 0) ++ rest =
    at_drop_more (flat_map number_word) c.args.numbers.now c.loop-number.number-index 0 c.loop-number-test.true in
    hands_on c.from_residual.result c.in_err-put_next.field-0.0 _ _ _ c.from_residual.ensures.0 c.from_residual.ensures.1 (stops _ _ _ so.0 _ _ _ rest so.1 so.2 cut _ c.in_err-put_next.ensures)

pub loop-number-preserved : goal.loop-number-preserved
loop-number-preserved g c =
    let so = c.loop-number.invariant in
    let rest = flat_map number_word (drop (c.loop-number.number-index + 1) c.args.numbers.now) in
    let cut : flat_map number_word (drop c.loop-number.number-index c.args.numbers.now) ≡ number_word (get_or c.args.numbers.now c.loop-number.number-index 0) ++ rest =
    at_drop_more (flat_map number_word) c.args.numbers.now c.loop-number.number-index 0 c.loop-number-test.true in
    goes_on _ _ _ so.0 _ _ _ rest so.1 so.2 cut c.in_ok-put_next.ensures
