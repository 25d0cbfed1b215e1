use Rattle.wire.proofs.Texts.{found_is_lined}
use Rattle.wire.proofs.laws.found_has_line.Goals as goal

pub returns : goal.returns
returns c = found_is_lined
