use Rattle.map_core.proofs.MapLaws.{asked_at_home}
use Rattle.map_core.proofs.laws.asked_at_home.Goals as goal

pub returns : goal.returns
returns c = asked_at_home
