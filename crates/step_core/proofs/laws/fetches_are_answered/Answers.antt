use Rattle.step_core.proofs.Linearized.{fetches_are_answered}
use Rattle.step_core.proofs.laws.fetches_are_answered.Goals as goal

pub returns : goal.returns
returns c = fetches_are_answered
