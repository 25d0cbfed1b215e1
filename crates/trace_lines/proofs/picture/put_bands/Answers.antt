use Rattle.std.proofs.Common.{ℕ, List, [], ◌+◌, ◌-◌, ◌/◌}
use Rattle.std.specs.List.{flat_map, range_with_len}
use Rattle.trace_lines.specs.Picture.{numbered_band}
use Rattle.trace_lines.proofs.Pictures.{range_first, range_none, all_bands}
use Rattle.trace_lines.proofs.Writes.{puts_nothing, hands_on, goes_on, stops, comes_to_end}
use Rattle.trace_lines.proofs.picture.put_bands.Goals as goal

pub loop-band-init : goal.loop-band-init
loop-band-init g c = ([], puts_nothing _, all_bands c.args.trace.now.ops.items c.args.trace.now.order.items c.args.callers.now c.args.events)

pub returns-in_err-put_band : goal.returns-in_err-put_band
returns-in_err-put_band g c =
    let so = c.loop-band.invariant in
    let band = c.loop-band.band in
    let all = (c.args.events + 59) / 60 in
    let text : ℕ → List ℕ = numbered_band c.args.trace.now.ops.items c.args.trace.now.order.items c.args.callers.now c.args.events in
    let rest = flat_map text (range_with_len (band + 1) (all - (band + 1))) in
    hands_on c.from_residual.result c.in_err-put_band.field-0.0 _ _ _ c.from_residual.ensures.0 c.from_residual.ensures.1
    (stops _ _ _ so.0 _ _ (text band) rest so.1 so.2 (range_first text band all c.loop-band-test.true) _ c.in_err-put_band.ensures)

pub loop-band-preserved : goal.loop-band-preserved
loop-band-preserved g c =
    let so = c.loop-band.invariant in
    let band = c.loop-band.band in
    let all = (c.args.events + 59) / 60 in
    let text : ℕ → List ℕ = numbered_band c.args.trace.now.ops.items c.args.trace.now.order.items c.args.callers.now c.args.events in
    let rest = flat_map text (range_with_len (band + 1) (all - (band + 1))) in
    goes_on _ _ _ so.0 _ _ (text band) rest so.1 so.2 (range_first text band all c.loop-band-test.true) c.in_ok-put_band.ensures

pub returns : goal.returns
returns g c =
    let so = c.loop-band.invariant in
    comes_to_end _ _ so.0 _ _ so.1 so.2 (range_none _ c.loop-band.band ((c.args.events + 59) / 60) c.loop-band-test.false)
