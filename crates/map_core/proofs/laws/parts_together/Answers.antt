use Rattle.map_core.proofs.Maps.{together_parts}
use Rattle.map_core.proofs.laws.parts_together.Goals as goal

pub returns : goal.returns
returns c = together_parts
