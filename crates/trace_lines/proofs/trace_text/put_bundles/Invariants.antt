use Rattle.std.proofs.Common.{◌≡◌, ℕ, List, ◌++◌, drop}
use Rattle.std.specs.List.{flat_map}
use Rattle.trace_lines.specs.TraceText.{bundle_words}
use Rattle.trace_lines.specs.Private.Puts.{PutsAll, out_of}
use Rattle.trace_lines.proofs.trace_text.put_bundles.Given as goal

-- what was put so far, and the rest follows
abbrev pub invariant-loop-item : goal.invariant-loop-item
invariant-loop-item g l =
    (so_far : List ℕ) × PutsAll (out_of g.W.Write.contents l.fn.out l.fn.gathered) (out_of g.W.Write.contents l.out l.gathered) so_far
    × (flat_map bundle_words l.items ≡ so_far ++ flat_map bundle_words (drop l.item-index l.items))
