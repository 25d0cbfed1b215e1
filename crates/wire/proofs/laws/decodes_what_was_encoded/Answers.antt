use Rattle.wire.proofs.OneLine.{decodes}
use Rattle.wire.proofs.laws.decodes_what_was_encoded.Goals as goal

pub returns : goal.returns
returns c = decodes
