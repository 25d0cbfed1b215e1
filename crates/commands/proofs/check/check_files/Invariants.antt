use Rattle.std.proofs.Common.{◌≡◌, map}
use Rattle.wire.specs.Counted.{end_in, faults_in}
use Rattle.commands.specs.Private.Checking.{SoFar}
use Rattle.commands.proofs.check.check_files.Given as goal

-- the texts of the files before the place are judged
abbrev pub invariant-loop-place : goal.invariant-loop-place
invariant-loop-place g l =
    SoFar (g.T.TextSource.gives l.fn.texts) (map (λ file. file.now) l.files) l.place l.findings (g.W.Write.contents (end_in l.fn.out)) (g.W.Write.contents (end_in l.out))
    × (faults_in l.out ≡ faults_in l.fn.out)
