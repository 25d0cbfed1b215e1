use Rattle.std.proofs.Common.{◌≡◌, ℕ, List, ◌++◌, length}
use Rattle.std.specs.Io.KnownBytes.{Appends}
use Rattle.wire.specs.Counted.{end_in, faults_in}
use Rattle.wire.proofs.output.write_whole.Given as goal

-- a front of the bytes is written, and the rest follows it
abbrev pub invariant-loop-rest : goal.invariant-loop-rest
invariant-loop-rest g l =
    (front : List ℕ) × (l.bytes ≡ front ++ l.rest)
    × Appends (g.W.Write.contents (end_in l.fn.writer)) (g.W.Write.contents (end_in l.writer)) front
    × (faults_in l.writer ≡ faults_in l.fn.writer)

abbrev pub decreases-loop-rest : goal.decreases-loop-rest
decreases-loop-rest g l = length l.rest
