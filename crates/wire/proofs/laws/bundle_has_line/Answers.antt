use Rattle.wire.proofs.Texts.{bundle_is_lined}
use Rattle.wire.proofs.laws.bundle_has_line.Goals as goal

pub returns : goal.returns
returns c = bundle_is_lined
