use Rattle.std.proofs.Common.{sym, ap, ◌∙◌}
use Rattle.shard_store.specs.Changes.{own_count}
use Rattle.shard_store.proofs.AtTable.{ready_at, all_at_table}
use Rattle.shard_store.proofs.Promise.{own_both}
use Rattle.shard_store.proofs.LastAll.{all_longer}
use Rattle.shard_store.proofs.LastReads.{reads_longer}
use Rattle.shard_store.proofs.store.Store.join.Goals as goal

pub join_seats-requires : goal.join_seats-requires
join_seats-requires c = record {
  free = (
    (ready_at _ _ c.pass.inside.desk (ap (λ p. p.store) c.pass.view_is ∙ c.requires.own.0) c.pass.invariant.0).0,
    (ready_at _ _ c.other.inside.desk (ap (λ p. p.store) c.other.view_is ∙ c.requires.own.1) c.other.invariant.0).0,
  );
}

pub invariant_of-pass : goal.invariant_of-pass
invariant_of-pass c = let p = c.pass.inside.desk in let s = p.seat.me.0.seen in let joined = c.join_seats.ensures in let t = c.join_seats.new.seat.me.0.seen in let more = joined.log.0 in let all = c.pass.inside.last_all in
    let z = ap (λ p. p.store) c.pass.view_is ∙ c.requires.own.0 in let ready = ready_at _ _ p z c.pass.invariant.0 in let at = sym joined.free.0 in (
      ready_at _ _ (record { seat = c.join_seats.new.seat; last_reads = p.last_reads }) at (joined.free, reads_longer _ s.log t.log p.last_reads.by_shard.items (more.0, more.1) ready.1),
      ap own_count joined.ranges ∙ (own_both s.ranges _ ready.0.1.3 ∙ c.pass.invariant.1),
      all_at_table _ _ t all at (all_longer _ s.log t.log all (more.0, more.1) (all_at_table _ _ s all z c.pass.invariant.2)),
    )
