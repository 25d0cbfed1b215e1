use Rattle.std.proofs.Common.{◌≡◌, ℕ, List}
use Rattle.wire.specs.Counted.{faults_in}
use Rattle.wire.specs.Output.{Tells, end_of}
use Rattle.bundled.proofs.snapshotting.repeat.Given as goal

-- some lines were told so far
abbrev pub invariant-loop : goal.invariant-loop
invariant-loop g l =
    ((lines : List ℕ) × Tells (end_of g.E.Write.contents l.fn.err) (end_of g.E.Write.contents l.err) lines) × (l.before ≡ faults_in l.fn.err)
