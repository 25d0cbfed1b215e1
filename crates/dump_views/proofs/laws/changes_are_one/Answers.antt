use Rattle.dump_views.proofs.ChangeLaws.{changes_are_one}
use Rattle.dump_views.proofs.laws.changes_are_one.Goals as goal

pub returns : goal.returns
returns c = changes_are_one
