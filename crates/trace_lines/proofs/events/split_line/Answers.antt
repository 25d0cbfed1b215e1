use Rattle.trace_lines.proofs.InputLines.{first_line, only_line}
use Rattle.trace_lines.proofs.events.split_line.Goals as goal

pub returns-in-Some-clause-first : goal.returns-in-Some-clause-first
returns-in-Some-clause-first c = first_line c.args.bytes.now c.in-Some.at c.in-Some.ensures

pub returns-in-None-clause-first : goal.returns-in-None-clause-first
returns-in-None-clause-first c = only_line c.args.bytes.now c.in-None.ensures c.requires
