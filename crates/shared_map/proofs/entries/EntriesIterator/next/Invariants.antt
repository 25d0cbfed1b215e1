use Rattle.std.proofs.Common.{◌≡◌, ◌+◌, length}
use Rattle.std.specs.Prelude.{sum_by}
use Rattle.shared_map.specs.Walk.{left}
use Rattle.shared_map.proofs.entries.EntriesIterator.next.Given as goal

-- what is still to come stays
abbrev pub invariant-loop-run : goal.invariant-loop-run
invariant-loop-run g l =
    left l.self-inside.slots.now l.self-inside.runs.now l.self-inside.groups.now l.self-inside.regions.now
    ≡ left l.initial.self-inside.slots.now l.initial.self-inside.runs.now l.initial.self-inside.groups.now l.initial.self-inside.regions.now

-- the runs, the groups and the regions that are still to be opened
abbrev pub decreases-loop-run : goal.decreases-loop-run
decreases-loop-run g l = length l.self-inside.runs.now + (sum_by (λ group. length group.1.parts + 1) l.self-inside.groups.now + sum_by (λ region. sum_by (λ group. length group.1.parts + 1) region.1.parts + 1) l.self-inside.regions.now)
