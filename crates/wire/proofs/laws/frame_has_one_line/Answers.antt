use Rattle.wire.proofs.OneLine.{one_line}
use Rattle.wire.proofs.laws.frame_has_one_line.Goals as goal

pub returns : goal.returns
returns c = one_line
