use Rattle.std.proofs.Common.{◌≡◌, ℕ, ◌+◌, ◌≤◌, List, ◌++◌, length}
use Rattle.trace_lines.specs.Events.{lines_in, AreEvents}
use Rattle.trace_lines.proofs.events.read_events.Given as goal

-- the lines so far are those of the events, and the rest follows; each line has taken at least one byte
abbrev pub invariant-loop-rest : goal.invariant-loop-rest
invariant-loop-rest l =
    (before : List (List ℕ)) × (lines_in l.input ≡ before ++ lines_in l.rest) × AreEvents before l.events.items × (length l.events.items + length l.rest ≤ length l.input)

abbrev pub decreases-loop-rest : goal.decreases-loop-rest
decreases-loop-rest l = length l.rest
