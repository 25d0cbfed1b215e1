use Rattle.std.proofs.Common.{◌≡◌}
use Rattle.map_core.specs.PlainMap.{merge}
use Rattle.step_core.specs.Shard.{reading}
use Rattle.step_core.proofs.round.merge_readings.Given as goal

abbrev pub invariant-loop-reading : goal.invariant-loop-reading
invariant-loop-reading l = l.all ≡ merge l.reading-index (λ j. (reading l.readings j).part)
