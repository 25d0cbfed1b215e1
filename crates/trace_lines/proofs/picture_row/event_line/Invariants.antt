use Rattle.std.proofs.Common.{◌≡◌, ◌+◌, ◌*◌, ◌≤◌, ◌++◌}
use Rattle.std.specs.Prelude.{codes}
use Rattle.std.specs.List.{flat_map, range_with_len}
use Rattle.arrayvec.specs.ArrayVec.{array_vec_len}
use Rattle.trace_lines.specs.Picture.{tick}
use Rattle.trace_lines.proofs.picture_row.event_line.Given as goal

-- the numbers so far, and there is room for more
abbrev pub invariant-loop-tick : goal.invariant-loop-tick
invariant-loop-tick l =
    (l.line.items ≡ codes "event    " ++ flat_map (λ k. tick (l.fn.from + 10 * k)) (range_with_len 0 l.tick))
    × (array_vec_len l.line ≤ 9 + 10 * l.tick)
