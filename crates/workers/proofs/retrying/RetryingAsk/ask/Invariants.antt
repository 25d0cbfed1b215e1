use Rattle.std.proofs.Common.{◌≡◌, ℕ, ◌+◌, Bool}
use Rattle.std.specs.Prelude.{Result}
use Rattle.map_core.specs.declared.reply.Reply.{Reply}
use Rattle.map_core.specs.declared.reply.AskError.{AskError}
use Rattle.workers.specs.Retrying.{AskedAgain}
use Rattle.workers.proofs.retrying.RetryingAsk.ask.Given as goal

-- whatever is answered from here on by asking again is answered from the start, by asking so much more often
abbrev pub invariant-loop : goal.invariant-loop
invariant-loop g l = (l.self.retries ≡ l.fn.self.retries) × (l.op ≡ l.fn.op)
    × ((k : ℕ) (has_room : Bool) (answer : Result Reply AskError) (new : g.row.A.Denot) → AskedAgain g.A.Ask.answers k has_room l.self.ask l.fn.op answer new
    → AskedAgain g.A.Ask.answers (l.counter + k) has_room l.fn.self.ask l.fn.op answer new)
