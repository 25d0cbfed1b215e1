use Rattle.dump_views.proofs.ChangeLaws.{nothing_is_same}
use Rattle.dump_views.proofs.laws.nothing_is_same.Goals as goal

pub returns : goal.returns
returns c = nothing_is_same
