use Rattle.refresh.proofs.RefreshLaws.{equal_is_unchanged}
use Rattle.refresh.proofs.laws.equal_is_unchanged.Goals as goal

pub returns : goal.returns
returns c = equal_is_unchanged
