use Rattle.std.proofs.Common.{arith, sym}
use Rattle.std.proofs.lemmas.List.{take_all}
use Rattle.trace_lines.proofs.picture_row.drawn.Goals as goal

pub returns-then-records-lt-COLUMNS : goal.returns-then-records-lt-COLUMNS
returns-then-records-lt-COLUMNS c = sym (take_all 960 c.args.records.now (omega (arith, c.if-records-lt-COLUMNS.true)))
