use Rattle.refresh.proofs.RefreshLaws.{older_is_refused}
use Rattle.refresh.proofs.laws.older_is_refused.Goals as goal

pub returns : goal.returns
returns c = older_is_refused
