use Rattle.wire.proofs.RefusalLines.{versions_have_lines}
use Rattle.wire.proofs.laws.versions_have_lines.Goals as goal

pub returns : goal.returns
returns c = versions_have_lines
