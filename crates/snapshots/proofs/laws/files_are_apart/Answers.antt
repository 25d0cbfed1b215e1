use Rattle.snapshots.proofs.NameLaws.{files_are_apart}
use Rattle.snapshots.proofs.laws.files_are_apart.Goals as goal

pub returns : goal.returns
returns c = files_are_apart
