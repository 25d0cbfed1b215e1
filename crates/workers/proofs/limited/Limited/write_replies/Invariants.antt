use Rattle.std.proofs.Common.{◌≡◌, ◌+◌, ℕ, List, length}
use Rattle.std.specs.Io.KnownBytes.{Appends}
use Rattle.frame_front.specs.Live.{Sends}
use Rattle.workers.specs.Connection.{counted}
use Rattle.workers.proofs.limited.Limited.write_replies.Given as goal

abbrev pub invariant-loop-self : goal.invariant-loop-self
invariant-loop-self g l =
    (bytes : List ℕ) × Sends bytes l.fn.live l.live × Appends (g.E.Stream.held l.fn.self.end) (g.E.Stream.held l.self.end) bytes
    × (g.E.Stream.left l.self.end ≡ g.E.Stream.left l.fn.self.end) × (l.self.turns ≡ l.fn.self.turns)
    × (g.E.Stream.may l.self.end ≡ g.E.Stream.may l.fn.self.end)
    × (l.self.written ≡ counted (l.fn.self.written + length bytes))

abbrev pub decreases-loop-self : goal.decreases-loop-self
decreases-loop-self g l = length l.live.ready
