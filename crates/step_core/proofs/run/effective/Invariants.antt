use Rattle.std.proofs.Common.{◌≡◌, get_or, take}
use Rattle.std.specs.Prelude.{filter}
use Rattle.step_core.specs.Records.{took_effect, no_record}
use Rattle.step_core.proofs.run.effective.Given as goal

abbrev pub invariant-loop-number : goal.invariant-loop-number
invariant-loop-number l = l.order.items ≡ filter (λ q. took_effect (get_or l.ops q no_record)) (take l.number-index l.numbers)
