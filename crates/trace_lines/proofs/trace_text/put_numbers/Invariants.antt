use Rattle.std.proofs.Common.{◌≡◌, ℕ, List, ◌++◌, drop}
use Rattle.std.specs.List.{flat_map}
use Rattle.trace_lines.specs.TraceText.{number_word}
use Rattle.trace_lines.specs.Private.Puts.{PutsAll, out_of}
use Rattle.trace_lines.proofs.trace_text.put_numbers.Given as goal

-- what was put so far, and the rest follows
abbrev pub invariant-loop-number : goal.invariant-loop-number
invariant-loop-number g l =
    (so_far : List ℕ) × PutsAll (out_of g.W.Write.contents l.fn.out l.fn.gathered) (out_of g.W.Write.contents l.out l.gathered) so_far
    × (flat_map number_word l.numbers ≡ so_far ++ flat_map number_word (drop l.number-index l.numbers))
