use Rattle.std.proofs.Common.{◌≡◌, ◌*◌, ◌<◌, sym, ap, ◌∙◌, subst, arith}
use Rattle.std.specs.Arc.{arc_value}
use Rattle.atomic_table.specs.Seated.{TableId}
use Rattle.shard_store.specs.Changes.{count}
use Rattle.shard_store.specs.Numbers.{IsPart}
use Rattle.shard_store.proofs.KeptSteps.{releases}
use Rattle.shard_store.proofs.Promise.{hand_rest, at_slots}
use Rattle.shard_store.proofs.store.Store.release.Goals as goal

pub store-requires : goal.store-requires
store-requires c = let held = c.requires.held in let h = held.2 in let log = c.args.seat.now.me.0.seen.log in let i = c.args.hold.shard in let z = ap (λ s. s.id) c.self.view_is in
    let within : i < c.self.inside.shards.shared.table_id.slots = subst (λ (t : TableId). i < t.slots) (sym z) held.1.0 in (
      held.0 ∙ sym z,
      omega (arith, within, c.self.invariant.0.0),
      releases _ _ _ _ _ _ h.0 h.4 (hand_rest _ _ h.1) (at_slots (λ k. IsPart k.slots i log (arc_value h.0)) _ _ z h.2) (at_slots (λ k. c.args.hold.word ≡ 2 * count k.slots log i) _ _ z held.1.1),
    )
