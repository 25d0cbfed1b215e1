use Rattle.step_core.proofs.OneMoment.{shows_one_moment}
use Rattle.step_core.proofs.laws.shows_one_moment.Goals as goal

pub returns : goal.returns
returns c = shows_one_moment
