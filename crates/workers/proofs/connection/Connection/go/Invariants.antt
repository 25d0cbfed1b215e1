use Rattle.std.proofs.Common.{◌≡◌, ◌+◌, ◌-◌, ◌≤◌, ℕ}
use Rattle.std.specs.Prelude.{◌<◌, false}
use Rattle.frame_front.specs.Live.{most_kept}
use Rattle.workers.specs.Connection.{turn_bytes}
use Rattle.workers.specs.Private.Limited.{LeavesAs}
use Rattle.workers.specs.Private.Goes.{GoesOn}
use Rattle.workers.proofs.connection.Connection.go.Given as goal

abbrev pub invariant-loop-rounds : goal.invariant-loop-rounds
invariant-loop-rounds g l =
    (bytes : ℕ) × GoesOn g.A.Ask.answers l.rounds bytes l.has_left l.fn.self l.self l.fn.ask l.ask × (l.self.has_ended ≡ l.fn.self.has_ended) × (l.rounds ≤ l.most)
    × LeavesAs l.has_left l.self.may × (l.left ≡ turn_bytes - bytes) × (l.fn.self.has_ended ≡ false → bytes < turn_bytes + most_kept)

abbrev pub decreases-loop-rounds : goal.decreases-loop-rounds
decreases-loop-rounds g l = l.most - l.rounds
