use Rattle.trace_lines.proofs.PictureLaws.{can_be}
use Rattle.trace_lines.proofs.laws.moments_can_be.Goals as goal

pub returns : goal.returns
returns c = can_be
