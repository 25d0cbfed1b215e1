use Rattle.std.proofs.Common.{◌≡◌, [], drop, take}
use Rattle.trace_lines.specs.Picture.{callers_of}
use Rattle.trace_lines.proofs.picture.callers.Given as goal

-- the callers so far, and what is left
abbrev pub invariant-loop-entry : goal.invariant-loop-entry
invariant-loop-entry l = callers_of l.callers.items (drop l.entry-index l.shown) ≡ callers_of [] (take 960 l.fn.records)
