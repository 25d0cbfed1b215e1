use Rattle.frame_front.proofs.LiveLemmas.{on_err, some_left}
use Rattle.frame_front.specs.Private.Pending.{body_left, domains_left}
use Rattle.frame_front.proofs.pending.PendingReply.store_front.Goals as goal

pub returns-in_err-store_both-clause-err : goal.returns-in_err-store_both-clause-err
returns-in_err-store_both-clause-err c =
    let old = c.args.self.now in
    on_err c.from_residual.result (some_left old.head.items c.text.result.now (domains_left old) (body_left old.body old.stored) c.text.ensures.left (rw c.as_slice.ensures.value at c.in_err-store_both.ensures.some))
