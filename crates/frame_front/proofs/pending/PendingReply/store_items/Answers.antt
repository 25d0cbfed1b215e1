use Rattle.frame_front.proofs.LiveLemmas.{items_left-err}
use Rattle.frame_front.proofs.pending.PendingReply.store_items.Goals as goal

pub returns-in-All-clause-err : goal.returns-in-All-clause-err
returns-in-All-clause-err c =
    rw (c.in-All.is, c.requires.front.0, ← c.pairs.ensures)
    (items_left-err c.store_pairs.result c.pairs.result.now c.store_pairs.new.stored c.store_pairs.ensures.err)
