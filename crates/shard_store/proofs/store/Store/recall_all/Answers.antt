use Rattle.std.proofs.Common.{ℕ, List, ◌<◌, ap, ◌∙◌, subst}
use Rattle.atomic_table.specs.Seated.{TableId}
use Rattle.map_core.specs.Table.{fetched}
use Rattle.shard_store.specs.Private.Readings.{AreConfirmed}
use Rattle.shard_store.proofs.LastAll.{still_all}
use Rattle.shard_store.proofs.store.Store.recall_all.Goals as goal

pub returns-in_ok-reply-in-None-clause-reply : goal.returns-in_ok-reply-in-None-clause-reply
returns-in_ok-reply-in-None-clause-reply c = let n = c.args.self.now.id.slots in let log = c.args.seat.now.me.0.seen.log in
    c.in_ok-reply-in-None.ensures.reply
    ∙ ap (fetched c.args.known) (still_all n log c.in-Some.last (subst (λ (t : TableId). 0 < t.slots) (ap (λ s. s.id) c.self.view_is) c.self.invariant.0.1) (c.requires.told c.in-Some.last c.in-Some.is)
    (subst (λ (l : List ℕ). AreConfirmed n log l) c.as_slice.ensures.value c.in-None.ensures.found))
