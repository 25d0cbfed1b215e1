use Rattle.map_core.proofs.Rising.{names_rise}
use Rattle.map_core.proofs.laws.names_rise.Goals as goal

pub returns : goal.returns
returns c = names_rise
