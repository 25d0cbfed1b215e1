use Rattle.std.proofs.Common.{ap, ◌∙◌, subst}
use Rattle.atomic_table.specs.Seated.{TableId}
use Rattle.shard_store.specs.Private.Seat.{Holds}
use Rattle.shard_store.proofs.held_pass.HeldPass.let_go.Goals as goal

pub release-requires : goal.release-requires
release-requires c = record { held = subst (λ (k : TableId). Holds k c.self.inside.hold c.self.inside.desk.seat) (ap (λ h. h.store) c.self.view_is ∙ c.requires) c.self.invariant.0 }
