use Rattle.std.proofs.Common.{◌≡◌, sym, ap, ◌∙◌, subst}
use Rattle.atomic_table.specs.Seated.{TableId}
use Rattle.map_core.specs.declared.reply.AskError.TheVariants.{Held}
use Rattle.shard_store.specs.Promise.{IsLater, IsAlone}
use Rattle.shard_store.specs.Changes.{own_count}
use Rattle.shard_store.specs.Private.LastReads.{AreLastReads}
use Rattle.shard_store.specs.Private.Seat.{Holds}
use Rattle.shard_store.proofs.AtTable.{ready_at, all_at_table}
use Rattle.shard_store.proofs.LastAll.{all_later}
use Rattle.shard_store.proofs.LastReads.{reads_later}
use Rattle.shard_store.proofs.store.Store.hold.Goals as goal

pub try_hold-requires-clause-free : goal.try_hold-requires-clause-free
try_hold-requires-clause-free c = (ready_at _ _ c.pass.inside.desk (ap (λ p. p.store) c.pass.view_is ∙ c.requires.own) c.pass.invariant.0).0

pub invariant_of-result : goal.invariant_of-result
invariant_of-result c = let f = c.in-Ok.ensures.found.0 in let p = c.pass.inside.desk in let t = c.try_hold.new.seat.me.0.seen in
    let told = (ready_at _ _ p (ap (λ p. p.store) c.pass.view_is ∙ c.requires.own) c.pass.invariant.0).1 in (
      subst (λ (k : TableId). Holds k (record { shard = c.args.shard; word = c.in-Ok.word }) c.try_hold.new.seat) (sym f.0) f,
      ap own_count c.try_hold.ensures.later.1 ∙ c.pass.invariant.1,
      subst (λ (k : TableId). AreLastReads k.slots t.log p.last_reads.by_shard.items) (sym f.0) (reads_later _ p.seat.me.0.seen t p.last_reads.by_shard.items c.try_hold.ensures.later told),
    )

pub invariant_of-pass : goal.invariant_of-pass
invariant_of-pass c = let f = c.in-Err.ensures.found.0 in let p = c.pass.inside.desk in let s = p.seat.me.0.seen in let t = c.try_hold.new.seat.me.0.seen in let all = c.pass.inside.last_all in
    let z = ap (λ p. p.store) c.pass.view_is ∙ c.requires.own in let told = (ready_at _ _ p z c.pass.invariant.0).1 in (
      ready_at _ _ (record { seat = c.try_hold.new.seat; last_reads = p.last_reads }) (sym f.0) (f, reads_later _ s t p.last_reads.by_shard.items c.try_hold.ensures.later told),
      ap own_count c.try_hold.ensures.later.1 ∙ c.pass.invariant.1,
      all_at_table _ _ t all (sym f.0) (all_later _ s t all c.try_hold.ensures.later (all_at_table _ _ s all z c.pass.invariant.2)),
    )

pub returns-in-Err-clause-held : goal.returns-in-Err-clause-held
returns-in-Err-clause-held c = let same : c.pass.inside.desk.seat.me.0.seen ≡ c.args.pass.seen = ap (λ p. p.seen) c.pass.view_is in let found = c.in-Err.ensures.found in (
  found.0.0,
  subst (IsLater c.try_hold.new.seat.me.0.seen) same c.try_hold.ensures.later,
  (λ alone. found.1.0 (subst IsAlone (sym same) alone)),
  ap (Held c.args.shard) found.1.1,
)
