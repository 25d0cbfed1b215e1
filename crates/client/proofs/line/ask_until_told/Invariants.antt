use Rattle.std.proofs.Common.{◌≡◌}
use Rattle.wire.specs.Counted.{end_in}
use Rattle.client.specs.Private.Steps.{TriesSoFar, faults_of}
use Rattle.client.proofs.line.ask_until_told.Given as goal

-- nothing is shown between two tries
abbrev pub invariant-loop-payload : goal.invariant-loop-payload
invariant-loop-payload g l =
    TriesSoFar l.fn.how.retries l.left l.fn.request (g.R.Read.remaining (end_in l.fn.server.from)) (g.R.Read.remaining (end_in l.server.from)) (g.W.Write.contents (end_in l.fn.server.to)) (g.W.Write.contents (end_in l.server.to))
    × (l.out ≡ l.fn.out) × (faults_of l.server l.fn.out ≡ faults_of l.fn.server l.fn.out)

abbrev pub decreases-loop-payload : goal.decreases-loop-payload
decreases-loop-payload g l = l.left
