use Rattle.step_core.proofs.Linearized.{has_places}
use Rattle.step_core.proofs.laws.has_places.Goals as goal

pub returns : goal.returns
returns c = has_places
