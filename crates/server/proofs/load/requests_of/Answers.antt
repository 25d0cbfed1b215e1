use Rattle.std.specs.Prelude.{None}
use Rattle.server.proofs.load.requests_of.Goals as goal

pub returns-in_default-open-clause-err : goal.returns-in_default-open-clause-err
returns-in_default-open-clause-err g c = rw c.in-Some.is (None, None, tt)
