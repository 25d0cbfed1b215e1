use Rattle.std.proofs.Common.{[], ◌++◌, take, ap, ◌∙◌}
use Rattle.trace_lines.specs.TraceText.{trace_text}
use Rattle.trace_lines.specs.Picture.{legend, bands_text, callers_of}
use Rattle.trace_lines.proofs.Pictures.{page_in_parts}
use Rattle.trace_lines.proofs.Writes.{hands_on, front_longer, second_cut, third_put}
use Rattle.trace_lines.proofs.picture.put_page.Goals as goal

pub returns-in_err-put_legend : goal.returns-in_err-put_legend
returns-in_err-put_legend g c =
    let records = c.args.trace.now.ops.items in
    let order = c.args.trace.now.order.items in
    hands_on c.from_residual.result c.in_err-put_legend.field-0.0 _ _ _ c.from_residual.ensures.0 c.from_residual.ensures.1
    (front_longer _ _ _ legend _ _ (page_in_parts c.args.events records order) c.in_err-put_legend.ensures)

pub returns-in_err-put_drawn : goal.returns-in_err-put_drawn
returns-in_err-put_drawn g c =
    let records = c.args.trace.now.ops.items in
    let order = c.args.trace.now.order.items in
    let is = ap (λ n. legend ++ (bands_text records order (callers_of [] (take 960 records)) n ++ trace_text records order)) c.min.ensures ∙ page_in_parts c.args.events records order in
    hands_on c.from_residual-in_err-put_drawn.result c.in_err-put_drawn.field-0.0 _ _ _ c.from_residual-in_err-put_drawn.ensures.0 c.from_residual-in_err-put_drawn.ensures.1
    (second_cut _ _ _ legend (bands_text records order (callers_of [] (take 960 records)) c.min.result) (trace_text records order) _ is c.in_ok-put_legend.ensures _ c.in_err-put_drawn.ensures)

pub returns : goal.returns
returns g c =
    let records = c.args.trace.now.ops.items in
    let order = c.args.trace.now.order.items in
    let is = ap (λ n. legend ++ (bands_text records order (callers_of [] (take 960 records)) n ++ trace_text records order)) c.min.ensures ∙ page_in_parts c.args.events records order in
    third_put _ _ _ legend (bands_text records order (callers_of [] (take 960 records)) c.min.result) (trace_text records order) _ is c.in_ok-put_legend.ensures _ c.in_ok-put_drawn.ensures
    c.put_text.result c.put_text.ensures
