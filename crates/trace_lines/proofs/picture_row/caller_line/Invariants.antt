use Rattle.std.proofs.Common.{◌≡◌, ◌+◌, ◌-◌, ◌≤◌, ◌++◌, map}
use Rattle.std.specs.Prelude.{codes, decimal}
use Rattle.std.specs.List.{range_with_len}
use Rattle.arrayvec.specs.ArrayVec.{array_vec_len}
use Rattle.trace_lines.specs.Picture.{label, caller_mark}
use Rattle.trace_lines.proofs.picture_row.caller_line.Given as goal

-- the columns before this event
abbrev pub invariant-loop-event : goal.invariant-loop-event
invariant-loop-event l =
    (l.line.items ≡ label (codes "caller " ++ decimal l.fn.caller) ++ map (caller_mark l.fn.records l.fn.caller) (range_with_len l.fn.from (l.event - l.fn.from)))
    × (array_vec_len l.line ≤ 18 + (l.event - l.fn.from)) × (l.fn.from ≤ l.event)
