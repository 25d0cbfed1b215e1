use Rattle.std.proofs.Common.{◌≡◌}
use Rattle.wire.specs.Counted.{end_in}
use Rattle.client.specs.Private.Steps.{ShowsOthers, faults_of}
use Rattle.client.proofs.showing.show_others.Given as goal

abbrev pub invariant-loop-place : goal.invariant-loop-place
invariant-loop-place g l =
    ShowsOthers l.fn.form l._place (g.R.Read.remaining (end_in l.fn.server.from)) (g.R.Read.remaining (end_in l.server.from)) (g.O.Write.contents (end_in l.fn.out)) (g.O.Write.contents (end_in l.out))
    × (l.server.to ≡ l.fn.server.to) × (faults_of l.server l.out ≡ faults_of l.fn.server l.fn.out)
