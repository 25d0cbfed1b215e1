use Rattle.step_core.proofs.Linearized.{names_are_answered}
use Rattle.step_core.proofs.laws.names_are_answered.Goals as goal

pub returns : goal.returns
returns c = names_are_answered
