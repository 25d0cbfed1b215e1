use Rattle.std.proofs.Common.{length}
use Rattle.std.proofs.lemmas.Bool.{ltb-true}
use Rattle.frame_front.specs.Private.Pending.{body_left}
use Rattle.frame_front.proofs.LiveLemmas.{front-some, front_and_items-some}
use Rattle.frame_front.proofs.pending.PendingReply.has_more.Goals as goal

pub returns-then-has_front-clause-some : goal.returns-then-has_front-clause-some
returns-then-has_front-clause-some c =
    let old = c.args.self.now in
    λ left. front-some old.head.items (body_left old.body old.stored) (c.has_front.ensures.some c.if-has_front.true)

pub returns-in-All-clause-some : goal.returns-in-All-clause-some
returns-in-All-clause-some c =
    rw (c.in-All.is, ← c.pairs.ensures) (λ left. front_and_items-some c.args.self.now.head.items c.pairs.result.now c.args.self.now.stored (ltb-true c.args.self.now.stored (length c.pairs.result.now) left))
