use Rattle.std.proofs.Common.{List, Some, sym, ◌∙◌, subst, refl, arith}
use Rattle.std.specs.List.{All}
use Rattle.std.proofs.lemmas.List.Elements.{All-push}
use Rattle.shard_store.specs.Rule.{SlotValue}
use Rattle.shard_store.specs.Private.Fresh.{IsEmptyVersion}
use Rattle.std.proofs.Common.{Global}
use Rattle.shard_store.proofs.store.empty_slots.Goals as goal

pub loop-preserved : goal.loop-preserved
loop-preserved c = let i = c.loop.invariant in let v = c.in_ok-version.version in let e = c.in_ok-push.ensures.items in (
  omega (arith, c.in_ok-push.ensures.len),
  subst (λ (l : List (SlotValue Global)). All IsEmptyVersion l) (sym e) (All-push IsEmptyVersion c.loop.slots.items (Some v) i.1 (v, refl, c.in_ok-version.ensures.ok ∙ c.new.ensures)),
)
