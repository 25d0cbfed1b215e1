use Rattle.snapshots.proofs.NameLaws.{files_stay_inside}
use Rattle.snapshots.proofs.laws.files_stay_inside.Goals as goal

pub returns : goal.returns
returns c = files_stay_inside
