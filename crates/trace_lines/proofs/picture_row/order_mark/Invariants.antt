use Rattle.std.proofs.Common.{◌≡◌, ◌≤◌, ℕ, drop}
use Rattle.std.specs.Prelude.{◌==◌}
use Rattle.std.specs.List.{find}
use Rattle.trace_lines.specs.Picture.{moments}
use Rattle.trace_lines.proofs.picture_row.order_mark.Given as goal

-- none so far takes effect at this event
abbrev pub invariant-loop-number : goal.invariant-loop-number
invariant-loop-number l =
    (find (λ (m : ℕ × ℕ). m.1 == l.fn.event) (moments l.from l.fn.records (drop l.number-index l.fn.order)) ≡ find (λ (m : ℕ × ℕ). m.1 == l.fn.event) (moments 0 l.fn.records l.fn.order))
    × (l.from ≤ l.fn.event)
