use Rattle.std.proofs.Common.{◌≡◌, replicate}
use Rattle.refresh.proofs.schedule.Schedule.new.Given as goal

-- a time for each relationship so far
abbrev pub invariant-loop : goal.invariant-loop
invariant-loop l = l.due_times.items ≡ replicate l.counter 0
