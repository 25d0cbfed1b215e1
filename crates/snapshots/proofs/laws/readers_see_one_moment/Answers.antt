use Rattle.snapshots.proofs.SeenLaws.{readers_see_one_moment}
use Rattle.snapshots.proofs.laws.readers_see_one_moment.Goals as goal

pub returns : goal.returns
returns c = readers_see_one_moment
