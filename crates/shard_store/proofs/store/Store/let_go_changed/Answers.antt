use Rattle.std.proofs.Common.{◌<◌, sym, ap, ◌∙◌, subst, arith}
use Rattle.atomic_table.specs.Seated.{TableId}
use Rattle.map_core.proofs.MapLaws.{home_of}
use Rattle.shard_store.proofs.KeptSteps.{publishes_changed}
use Rattle.shard_store.proofs.Promise.{hand_rest, has_own_number}
use Rattle.shard_store.proofs.store.Store.let_go_changed.Goals as goal

pub store-requires : goal.store-requires
store-requires g c = let h = c.requires.holds in let v = c.args.seat.now.me.0 in let word = c.requires.word in let z = ap (λ s. s.id) c.self.view_is in
    let within : c.args.hold.shard < c.self.inside.shards.shared.table_id.slots = subst (λ (t : TableId). c.args.hold.shard < t.slots) (sym z) word.0.0 in (
      c.requires.own ∙ sym z,
      omega (arith, within, c.self.invariant.0.0),
      publishes_changed _ _ _ _ _ _ c.args.seat.now.me h.0 _ _ (ap (λ k. k.slots) z) (hand_rest _ _ h.1) c.requires.change.0 h.4 h.2 (home_of _ _ c.args.op.now c.requires.change.1.1) (has_own_number v h.5)
          (omega (arith, word.0.1, word.1)) (omega (arith, word.0.1)),
    )
