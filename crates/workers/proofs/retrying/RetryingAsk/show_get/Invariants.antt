use Rattle.std.proofs.Common.{◌≡◌, ℕ, ◌+◌, Bool}
use Rattle.std.specs.Prelude.{Result}
use Rattle.map_core.specs.declared.op.Op.TheVariants.{Get}
use Rattle.map_core.specs.declared.reply.Reply.{Reply}
use Rattle.map_core.specs.declared.reply.AskError.{AskError}
use Rattle.workers.specs.Retrying.{AskedAgain}
use Rattle.workers.proofs.retrying.RetryingAsk.show_get.Given as goal

-- whatever is answered from here on by asking again is answered from the start, by asking so much more often; nothing is shown yet
abbrev pub invariant-loop-turn : goal.invariant-loop-turn
invariant-loop-turn g l = (l.self.retries ≡ l.fn.self.retries) × (l.domain-inside ≡ l.initial.domain-inside) × (g.V.Viewer.noted l.viewer ≡ g.V.Viewer.noted l.fn.viewer)
    × ((k : ℕ) (has_room : Bool) (answer : Result Reply AskError) (new : g.row.A.Denot) → AskedAgain g.A.Ask.answers k has_room l.self.ask (Get l.fn.domain) answer new
    → AskedAgain g.A.Ask.answers (l._turn + k) has_room l.fn.self.ask (Get l.fn.domain) answer new)
