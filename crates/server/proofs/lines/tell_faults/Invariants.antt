use Rattle.std.proofs.Common.{◌≡◌, take}
use Rattle.server.specs.Serve.{have_all_come, session_lines, faults_by}
use Rattle.wire.specs.Output.{TellsUnlessFailed, end_of}
use Rattle.server.proofs.lines.tell_faults.Given as goal

abbrev pub invariant-loop-worker : goal.invariant-loop-worker
invariant-loop-worker g l =
    TellsUnlessFailed l.before (end_of g.E.Write.contents l.fn.err) (end_of g.E.Write.contents l.err) (session_lines (faults_by (take l.worker-index l.worked)))
    × (l.have_come ≡ have_all_come (take l.worker-index l.worked))
