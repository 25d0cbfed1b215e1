use Rattle.std.proofs.Common.{◌≡◌, take}
use Rattle.step_core.specs.Private.Driver.{positions}
use Rattle.step_core.proofs.run.numbers.Given as goal

abbrev pub invariant-loop-point : goal.invariant-loop-point
invariant-loop-point l = l.numbers.items ≡ positions (take l.point-index l.points)
