use Rattle.wire.proofs.RequestLines.{found_is, only_is}
use Rattle.wire.proofs.request.line.request_of_line.Goals as goal

pub returns-clause-found : goal.returns-clause-found
returns-clause-found c = found_is c.args.line.now c.read_line.result c.read_line.ensures

pub returns-clause-only : goal.returns-clause-only
returns-clause-only c = only_is c.args.line.now c.read_line.result c.read_line.ensures
