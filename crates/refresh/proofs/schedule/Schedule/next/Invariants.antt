use Rattle.std.proofs.Common.{◌≡◌, ◌≤◌, ℕ, ◌<◌, slice_index}
use Rattle.refresh.proofs.schedule.Schedule.next.Given as goal

-- the first place of the least time before this one
abbrev pub invariant-loop-place : goal.invariant-loop-place
invariant-loop-place l =
    (l.least.0 < l.place) × (slice_index l.self.due_times l.least.0 ≡ l.least.1)
    × ((k : ℕ) → k < l.place → l.least.1 ≤ slice_index l.self.due_times k)
    × ((k : ℕ) → k < l.least.0 → l.least.1 < slice_index l.self.due_times k)
