use Rattle.std.proofs.Common.{◌≡◌, ℕ, List, ◌++◌, drop}
use Rattle.std.specs.List.{flat_map}
use Rattle.trace_lines.specs.TraceText.{ended}
use Rattle.trace_lines.specs.Picture.{caller_line}
use Rattle.trace_lines.specs.Private.Puts.{PutsAll, out_of}
use Rattle.trace_lines.proofs.picture.put_rows.Given as goal

-- what was put so far, and the rest follows
abbrev pub invariant-loop-caller : goal.invariant-loop-caller
invariant-loop-caller g l =
    (so_far : List ℕ) × PutsAll (out_of g.W.Write.contents l.fn.out l.fn.gathered) (out_of g.W.Write.contents l.out l.gathered) so_far
    × (flat_map (λ caller. ended (caller_line l.trace.ops.items l.from l.width caller)) l.callers
    ≡ so_far ++ flat_map (λ caller. ended (caller_line l.trace.ops.items l.from l.width caller)) (drop l.caller-index l.callers))
