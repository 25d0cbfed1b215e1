use Rattle.std.proofs.Common.{◌≡◌, ◌++◌}
use Rattle.workers.specs.Filling.{stored_replies}
use Rattle.workers.proofs.filling.are_stored.Given as goal

abbrev pub invariant-loop : goal.invariant-loop
invariant-loop l = l.replies ≡ stored_replies l.counter ++ l.rest
