use Rattle.std.proofs.Common.{rules, sym, ap, ◌∙◌, arith}
use Rattle.shard_store.proofs.KeptSeats.{splits}
use Rattle.shard_store.proofs.store.Store.split_off.Goals as goal

pub split_seat-requires : goal.split_seat-requires
split_seat-requires g c = let free = c.requires.free in let share = c.requires.share in (free.0 ∙ sym (ap (λ s. s.id) c.self.view_is), search rules, splits _ _ _ _ free.1.2 free.1.1 (omega (arith, share.0, share.2)))
