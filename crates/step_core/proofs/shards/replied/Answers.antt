use Rattle.std.proofs.Common.{◌≡◌, ℕ, List, Option, false, Result, ap, ◌∙◌}
use Rattle.map_core.specs.declared.reply.Reply.{Reply}
use Rattle.map_core.specs.declared.reply.AskError.{AskError}
use Rattle.step_core.specs.Phase.{Phase, Waiting, Done, wants, give, Replied}
use Rattle.step_core.specs.Task.{is_last_confirm}
use Rattle.step_core.proofs.shards.replied.Goals as goal

-- it is done with what it was told
told : (n rounds : ℕ) (known : Option (List ℕ)) (old new : Phase) (answer : Result Reply AskError) → (place : ℕ) × (old ≡ Waiting place)
    → (is_last_confirm n old (Replied answer) ≡ false → new ≡ give n rounds known old (Replied answer)) → new ≡ Done answer
told n rounds known old new answer waits exact =
    exact (ap (λ (p : Phase). is_last_confirm n p (Replied answer)) waits.1) ∙ ap (λ (p : Phase). give n rounds known p (Replied answer)) waits.1

pub reply-requires : goal.reply-requires
reply-requires c = ap wants (told c.args.task.shards c.args.task.rounds c.args.task.known c.args.task.phase c.give.new.self.phase c.args.answer c.requires c.give.ensures.exact)

pub returns : goal.returns
returns c =
    let done = told c.args.task.shards c.args.task.rounds c.args.task.known c.args.task.phase c.give.new.self.phase c.args.answer c.requires c.give.ensures.exact in
    let said = c.reply.ensures in
    cc
