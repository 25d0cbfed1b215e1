use Rattle.std.proofs.Common.{◌≤◌, ◌-◌}
use Rattle.frame_front.specs.Private.DumpReading.{HasRead}
use Rattle.frame_front.proofs.dump.read_dump.Given as goal

abbrev pub invariant-loop-place : goal.invariant-loop-place
invariant-loop-place l = HasRead l.dump l.count l.rest l.place l.domains.items × (l.place ≤ l.count)

abbrev pub decreases-loop-place : goal.decreases-loop-place
decreases-loop-place l = l.count - l.place
