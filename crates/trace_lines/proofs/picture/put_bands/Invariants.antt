use Rattle.std.proofs.Common.{◌≡◌, ◌+◌, ◌-◌, ◌/◌, ℕ, List, ◌++◌}
use Rattle.std.specs.List.{flat_map, range_with_len}
use Rattle.trace_lines.specs.Picture.{numbered_band, bands_text}
use Rattle.trace_lines.specs.Private.Puts.{PutsAll, out_of}
use Rattle.trace_lines.proofs.picture.put_bands.Given as goal

-- what was put so far, and the rest follows
abbrev pub invariant-loop-band : goal.invariant-loop-band
invariant-loop-band g l =
    (so_far : List ℕ) × PutsAll (out_of g.W.Write.contents l.fn.out l.fn.gathered) (out_of g.W.Write.contents l.out l.gathered) so_far
    × (bands_text l.fn.trace.ops.items l.fn.trace.order.items l.callers l.fn.events
    ≡ so_far ++ flat_map (numbered_band l.fn.trace.ops.items l.fn.trace.order.items l.callers l.fn.events) (range_with_len l.band ((l.fn.events + 59) / 60 - l.band)))
