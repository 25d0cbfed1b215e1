use Rattle.std.proofs.Common.{refl}
use Rattle.trace_lines.specs.TraceText.{records_text, order_line, ended}
use Rattle.trace_lines.proofs.TraceTexts.{trace_in_parts}
use Rattle.trace_lines.proofs.Writes.{hands_on, front_longer, puts_then}
use Rattle.trace_lines.proofs.trace_text.put_text.Goals as goal

pub returns-in_err-put_records : goal.returns-in_err-put_records
returns-in_err-put_records g c =
    hands_on c.from_residual.result c.in_err-put_records.field-0.0 _ _ _ c.from_residual.ensures.0 c.from_residual.ensures.1
    (front_longer _ _ _ (records_text 0 c.as_slice.result.now) (ended (order_line c.args.trace.now.order.items)) _
    (trace_in_parts c.as_slice.result.now c.args.trace.now.ops.items c.args.trace.now.order.items c.args.trace.now.order.items c.as_slice.ensures.value refl) c.in_err-put_records.ensures)

pub returns : goal.returns
returns g c =
    puts_then _ _ _ (records_text 0 c.as_slice.result.now) (ended (order_line c.as_slice-2.result.now)) _ c.in_ok-put_records.ensures
    (trace_in_parts c.as_slice.result.now c.args.trace.now.ops.items c.as_slice-2.result.now c.args.trace.now.order.items c.as_slice.ensures.value c.as_slice-2.ensures.value) c.put_order.result c.put_order.ensures
