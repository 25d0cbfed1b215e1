use Rattle.refresh.proofs.RefreshLaws.{others_stay}
use Rattle.refresh.proofs.laws.others_stay.Goals as goal

pub returns : goal.returns
returns c = others_stay
