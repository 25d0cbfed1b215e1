use Rattle.std.proofs.Common.{◌≡◌, drop, take}
use Rattle.std.specs.List.{find}
use Rattle.trace_lines.specs.Picture.{is_open}
use Rattle.trace_lines.proofs.picture_row.caller_mark.Given as goal

-- none so far is open
abbrev pub invariant-loop-entry : goal.invariant-loop-entry
invariant-loop-entry l =
    find (is_open l.fn.caller l.fn.event) (drop l.entry-index l.shown) ≡ find (is_open l.fn.caller l.fn.event) (take 960 l.fn.records)
