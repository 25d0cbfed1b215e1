use Rattle.std.proofs.Common.{[], refl}
use Rattle.commands.specs.Fault.{fault_line}
use Rattle.wire.specs.Output.{end_of}
use Rattle.wire.proofs.OutputLemmas.{told_nothing}
use Rattle.server.proofs.saving.save.Goals as goal

pub returns-in_default : goal.returns-in_default
returns-in_default g c = rw c.in_default.is ([], (tt, refl), told_nothing c.args.before (end_of g.E.Write.contents c.args.err.now))

pub returns-in-Ok : goal.returns-in-Ok
returns-in-Ok g c = rw c.in-Some.is ([], (c.in-Ok.ensures.ok, refl), told_nothing c.args.before (end_of g.E.Write.contents c.args.err.now))

pub returns : goal.returns
returns g c = (fault_line c.in-Err.fault, (c.in-Err.fault, c.in-Err.ensures.err, refl), c.tell_unless_failed.ensures)
