use Rattle.frame_front.proofs.DumpTexts.{same_dump}
use Rattle.frame_front.proofs.laws.equal_dumps_are_of_equal_bundles.Goals as goal

pub returns : goal.returns
returns c = same_dump
