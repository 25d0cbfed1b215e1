use Rattle.std.proofs.Common.{take}
use Rattle.std.specs.Io.KnownBytes.{Appends}
use Rattle.server.specs.Counts.{names, words}
use Rattle.server.proofs.counts.line.write_words.Given as goal

abbrev pub invariant-loop-place : goal.invariant-loop-place
invariant-loop-place g l = Appends (g.W.Write.contents l.fn.line) (g.W.Write.contents l.line) (words (take l.place names) (take l.place l.numbers))
