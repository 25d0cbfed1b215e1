use Rattle.std.proofs.Common.{ℕ, List, ◌≡◌, ◌+◌, ◌++◌, drop}
use Rattle.std.proofs.lemmas.List.{at_drop_more}
use Rattle.std.proofs.Common.{get_or}
use Rattle.std.specs.List.{flat_map}
use Rattle.trace_lines.specs.TraceText.{ended}
use Rattle.trace_lines.specs.Picture.{caller_line}
use Rattle.trace_lines.proofs.Writes.{hands_on, goes_on, stops}
use Rattle.trace_lines.proofs.picture.put_rows.Goals as goal

pub returns-in_err-put_row : goal.returns-in_err-put_row
returns-in_err-put_row g c =
    let so = c.loop-caller.invariant in
    let line : ℕ → List ℕ = λ caller. ended (caller_line c.args.trace.now.ops.items c.args.from c.args.width caller) in
    let rest = flat_map line (drop (c.loop-caller.caller-index + 1) c.args.callers.now) in
    let cut : flat_map line (drop c.loop-caller.caller-index c.args.callers.now) ≡ line (get_or c.args.callers.now c.loop-caller.caller-index 0) ++ rest =
    at_drop_more (flat_map line) c.args.callers.now c.loop-caller.caller-index 0 c.loop-caller-test.true in
    hands_on c.from_residual.result c.in_err-put_row.field-0.0 _ _ _ c.from_residual.ensures.0 c.from_residual.ensures.1 (stops _ _ _ so.0 _ _ _ rest so.1 so.2 cut _ c.in_err-put_row.ensures)

pub loop-caller-preserved : goal.loop-caller-preserved
loop-caller-preserved g c =
    let so = c.loop-caller.invariant in
    let line : ℕ → List ℕ = λ caller. ended (caller_line c.args.trace.now.ops.items c.args.from c.args.width caller) in
    let rest = flat_map line (drop (c.loop-caller.caller-index + 1) c.args.callers.now) in
    let cut : flat_map line (drop c.loop-caller.caller-index c.args.callers.now) ≡ line (get_or c.args.callers.now c.loop-caller.caller-index 0) ++ rest =
    at_drop_more (flat_map line) c.args.callers.now c.loop-caller.caller-index 0 c.loop-caller-test.true in
    goes_on _ _ _ so.0 _ _ _ rest so.1 so.2 cut c.in_ok-put_row.ensures
