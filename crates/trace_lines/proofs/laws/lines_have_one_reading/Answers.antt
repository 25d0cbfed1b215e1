use Rattle.trace_lines.proofs.EventLines.{each_one_reading}
use Rattle.trace_lines.proofs.laws.lines_have_one_reading.Goals as goal

pub returns : goal.returns
returns c = each_one_reading
