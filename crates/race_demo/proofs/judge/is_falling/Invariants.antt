use Rattle.std.proofs.Common.{◌≡◌, false, drop}
use Rattle.race_demo.specs.Private.{fits}
use Rattle.race_demo.proofs.judge.is_falling.Given as goal

-- what is left decides
abbrev pub invariant-loop-reading : goal.invariant-loop-reading
invariant-loop-reading l = fits l.down l.low (drop l.reading-index l.readings) ≡ fits false l.low l.readings
