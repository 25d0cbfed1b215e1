use Rattle.std.proofs.Common.{rules, sym, ap, ◌∙◌, arith}
use Rattle.shard_store.proofs.KeptSeats.{joins}
use Rattle.shard_store.proofs.KeptSteps.{looks}
use Rattle.shard_store.proofs.store.Store.join_seats.Goals as goal

pub join_seat-requires : goal.join_seat-requires
join_seat-requires c = let free = c.requires.free in let at = sym (ap (λ s. s.id) c.self.view_is) in (free.0.0 ∙ at, free.1.0 ∙ at, search rules, search rules, joins _ _ _ _ _ free.0.1.2 free.1.1.2)

pub load-requires : goal.load-requires
load-requires c = (search rules, omega (arith, c.self.invariant.0), looks _ _ _ _ _ c.self.invariant.0.1)
