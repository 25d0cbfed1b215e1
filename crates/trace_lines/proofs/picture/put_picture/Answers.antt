use Rattle.trace_lines.proofs.Writes.{text_cut}
use Rattle.trace_lines.proofs.picture.put_picture.Goals as goal

pub returns-clause-front : goal.returns-clause-front
returns-clause-front g c = text_cut _ _ _ c.new-gathered.ensures c.in_ok-put_page.ensures _ c.flush.ensures.front
