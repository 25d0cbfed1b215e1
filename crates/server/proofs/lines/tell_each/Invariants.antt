use Rattle.std.proofs.Common.{take}
use Rattle.server.specs.Serve.{session_lines}
use Rattle.wire.specs.Output.{TellsUnlessFailed, end_of}
use Rattle.server.proofs.lines.tell_each.Given as goal

abbrev pub invariant-loop-fault : goal.invariant-loop-fault
invariant-loop-fault g l =
    TellsUnlessFailed l.before (end_of g.E.Write.contents l.fn.err) (end_of g.E.Write.contents l.err) (session_lines (take l.fault-index l.faults))
