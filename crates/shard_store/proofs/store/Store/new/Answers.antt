use Rattle.std.proofs.Common.{replicate, sym, ap, ◌∙◌}
use Rattle.shard_store.proofs.KeptEnds.{opens}
use Rattle.shard_store.proofs.store.Store.new.Goals as goal

pub new-requires : goal.new-requires
new-requires c = let slots = c.in_ok-slots.ensures in opens _ _ _ (c.as_slice.ensures.value ∙ (c.in_ok-words.ensures ∙ ap (λ n. replicate n 0) (sym slots.0))) slots.1
