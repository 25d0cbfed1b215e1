use Rattle.trace_lines.proofs.EventLines.{request_told}
use Rattle.trace_lines.proofs.event_line.read_request.Goals as goal

pub returns : goal.returns
returns c = request_told c.args.line.now c.request_of_line.result c.request_of_line.ensures.found c.request_of_line.ensures.only
