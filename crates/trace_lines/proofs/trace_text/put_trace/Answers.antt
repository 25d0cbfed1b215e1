use Rattle.trace_lines.proofs.Writes.{text_cut}
use Rattle.trace_lines.proofs.trace_text.put_trace.Goals as goal

pub returns-clause-front : goal.returns-clause-front
returns-clause-front g c = text_cut _ _ _ c.new-gathered.ensures c.in_ok-put_text.ensures _ c.flush.ensures.front
