use Rattle.refresh.proofs.RefreshLaws.{due_is_later}
use Rattle.refresh.proofs.laws.due_is_later.Goals as goal

pub returns : goal.returns
returns c = due_is_later
