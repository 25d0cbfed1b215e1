use Rattle.std.proofs.Common.{◌<◌, sym, ap, ◌∙◌, subst, arith}
use Rattle.atomic_table.specs.Seated.{TableId}
use Rattle.shard_store.proofs.KeptSteps.{looks}
use Rattle.shard_store.proofs.store.Store.look.Goals as goal

pub load-requires : goal.load-requires
load-requires c = let z = ap (λ s. s.id) c.self.view_is in let within : c.args.shard < c.self.inside.shards.shared.table_id.slots = subst (λ (t : TableId). c.args.shard < t.slots) (sym z) c.requires.shard in
    (c.requires.free.0 ∙ sym z, omega (arith, within, c.self.invariant.0.0), looks _ _ _ _ _ within)
