use Rattle.std.proofs.Common.{◌≡◌, length}
use Rattle.wire.specs.Counted.{end_in, faults_in}
use Rattle.wire.specs.Private.Encoders.{KeptSoFar}
use Rattle.wire.proofs.stream.encode_kept.Given as goal

-- what was taken out and sent so far
abbrev pub invariant-loop-writer : goal.invariant-loop-writer
invariant-loop-writer g l =
    KeptSoFar (g.T.TextSource.gives l.fn.texts) l.initial.encoder l.encoder (g.W.Write.contents (end_in l.initial.writer)) (g.W.Write.contents (end_in l.writer)) l.out.items
    × (faults_in l.writer ≡ faults_in l.initial.writer)

abbrev pub decreases-loop-writer : goal.decreases-loop-writer
decreases-loop-writer g l = length l.encoder.kept
