use Rattle.trace_lines.proofs.EventLines.{one_reading}
use Rattle.trace_lines.proofs.laws.line_has_one_reading.Goals as goal

pub returns : goal.returns
returns c = one_reading
