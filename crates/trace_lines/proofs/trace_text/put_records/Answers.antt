use Rattle.std.proofs.Common.{◌≡◌, ◌+◌, ◌≤◌, ◌++◌, length, drop, sym, ap, ◌∙◌, arith}
use Rattle.std.proofs.lemmas.List.{at_drop_more, at_drop_all}
use Rattle.trace_lines.specs.TraceText.{records_text, record_line, ended}
use Rattle.trace_lines.proofs.TraceTexts.{first_record, no_records}
use Rattle.trace_lines.proofs.Writes.{hands_on, goes_on, stops, comes_to_end}
use Rattle.trace_lines.proofs.trace_text.put_records.Goals as goal

pub returns-in_err-put_record : goal.returns-in_err-put_record
returns-in_err-put_record g c =
    let so = c.loop-number.invariant in
    let rest = records_text (c.loop-number.number + 1) (drop (c.loop-number.number + 1) c.args.records.now) in
    let cut : records_text c.loop-number.number (drop c.loop-number.number c.args.records.now) ≡ ended (record_line c.loop-number.number c.index-records-number.result) ++ rest =
    at_drop_more (records_text c.loop-number.number) c.args.records.now c.loop-number.number _ c.loop-number-test.true
    ∙ first_record c.loop-number.number _ _ ∙ ap (λ r. ended (record_line c.loop-number.number r) ++ rest) (sym c.index-records-number.is) in
    hands_on c.from_residual.result c.in_err-put_record.field-0.0 _ _ _ c.from_residual.ensures.0 c.from_residual.ensures.1 (stops _ _ _ so.0 _ _ _ rest so.1 so.2 cut _ c.in_err-put_record.ensures)

pub loop-number-preserved : goal.loop-number-preserved
loop-number-preserved g c =
    let so = c.loop-number.invariant in
    let rest = records_text (c.loop-number.number + 1) (drop (c.loop-number.number + 1) c.args.records.now) in
    let cut : records_text c.loop-number.number (drop c.loop-number.number c.args.records.now) ≡ ended (record_line c.loop-number.number c.index-records-number.result) ++ rest =
    at_drop_more (records_text c.loop-number.number) c.args.records.now c.loop-number.number _ c.loop-number-test.true
    ∙ first_record c.loop-number.number _ _ ∙ ap (λ r. ended (record_line c.loop-number.number r) ++ rest) (sym c.index-records-number.is) in
    goes_on _ _ _ so.0 _ _ _ rest so.1 so.2 cut c.in_ok-put_record.ensures

pub returns : goal.returns
returns g c =
    let so = c.loop-number.invariant in
    let n = c.loop-number.number in
    let over : length c.args.records.now ≤ n = omega (arith, c.loop-number-test.false) in
    comes_to_end _ _ so.0 _ _ so.1 so.2 (at_drop_all (records_text n) c.args.records.now n over ∙ no_records n)
