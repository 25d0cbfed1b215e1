use Rattle.race_demo.proofs.Moments.{reached}
use Rattle.race_demo.proofs.laws.first_few_are_ahead.Goals as goal

pub returns : goal.returns
returns c domains sets some = let it = reached domains sets some in (it.few, it.round, it.below, it.map)
