use Rattle.wire.proofs.RefusalLines.{refusals_have_lines}
use Rattle.wire.proofs.laws.refusals_have_lines.Goals as goal

pub returns : goal.returns
returns c = refusals_have_lines
