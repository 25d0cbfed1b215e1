use Rattle.std.proofs.Common.{◌≡◌, take}
use Rattle.workers.specs.Ended.{kept_of}
use Rattle.workers.proofs.ended.SessionEnds.of.Given as goal

abbrev pub invariant-loop-end : goal.invariant-loop-end
invariant-loop-end l = l.kept ≡ kept_of (take l.end-index l.ends)
