use Rattle.std.proofs.Common.{ℕ, List, ◌*◌, ◌++◌, ap, ◌∙◌}
use Rattle.std.specs.Prelude.{codes}
use Rattle.std.specs.List.{flat_map}
use Rattle.step_core.specs.declared.trace.OpRecord.{OpRecord}
use Rattle.trace_lines.specs.TraceText.{ended}
use Rattle.trace_lines.specs.Picture.{event_line, caller_line, order_row, band_text}
use Rattle.trace_lines.proofs.Pictures.{band_in_parts}
use Rattle.trace_lines.proofs.Writes.{hands_on, front_longer, second_cut, third_put}
use Rattle.trace_lines.proofs.picture.put_band.Goals as goal

abbrev rows : List OpRecord → List ℕ → ℕ → ℕ → List ℕ
rows records callers from width = flat_map (λ caller. ended (caller_line records from width caller)) callers

abbrev last : List OpRecord → List ℕ → ℕ → ℕ → List ℕ
last records order from width = order_row records order from width ++ codes "\n\n"

pub returns-in_err-put_events : goal.returns-in_err-put_events
returns-in_err-put_events g c =
    let records = c.args.trace.now.ops.items in
    let order = c.args.trace.now.order.items in
    let from = 60 * c.args.band in
    let width = c.min-width.result in
    let is = band_in_parts records order c.args.callers.now from width ∙ ap (band_text records order c.args.callers.now from) c.min-width.ensures in
    hands_on c.from_residual.result c.in_err-put_events.field-0.0 _ _ _ c.from_residual.ensures.0 c.from_residual.ensures.1
    (front_longer _ _ _ (ended (event_line from width)) (rows records c.args.callers.now from width ++ last records order from width) _ is c.in_err-put_events.ensures)

pub returns-in_err-put_rows : goal.returns-in_err-put_rows
returns-in_err-put_rows g c =
    let records = c.args.trace.now.ops.items in
    let order = c.args.trace.now.order.items in
    let from = 60 * c.args.band in
    let width = c.min-width.result in
    let is = band_in_parts records order c.args.callers.now from width ∙ ap (band_text records order c.args.callers.now from) c.min-width.ensures in
    hands_on c.from_residual-in_err-put_rows.result c.in_err-put_rows.field-0.0 _ _ _ c.from_residual-in_err-put_rows.ensures.0 c.from_residual-in_err-put_rows.ensures.1
    (second_cut _ _ _ (ended (event_line from width)) (rows records c.args.callers.now from width) (last records order from width) _ is c.in_ok-put_events.ensures _ c.in_err-put_rows.ensures)

pub returns : goal.returns
returns g c =
    let records = c.args.trace.now.ops.items in
    let order = c.args.trace.now.order.items in
    let from = 60 * c.args.band in
    let width = c.min-width.result in
    let is = band_in_parts records order c.args.callers.now from width ∙ ap (band_text records order c.args.callers.now from) c.min-width.ensures in
    third_put _ _ _ (ended (event_line from width)) (rows records c.args.callers.now from width) (last records order from width) _ is c.in_ok-put_events.ensures _ c.in_ok-put_rows.ensures
    c.put_last_row.result c.put_last_row.ensures
