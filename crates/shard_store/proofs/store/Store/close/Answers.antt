use Rattle.std.proofs.Common.{ℕ, ◌<◌, List, Global, sym, ap, ◌∙◌, subst}
use Rattle.std.specs.Mem.Slots.{slots_counts}
use Rattle.shard_store.specs.declared.change.Seen.{Seen}
use Rattle.shard_store.specs.Rule.{SlotValue}
use Rattle.shard_store.specs.Changes.{after, Extends}
use Rattle.shard_store.specs.Promise.{IsAlone}
use Rattle.shard_store.specs.Private.Readings.{HoldPartsOf}
use Rattle.shard_store.proofs.KeptEnds.{closes}
use Rattle.shard_store.proofs.LastReads.{none_case, some_case}
use Rattle.shard_store.proofs.Promise.{all_alone}
use Rattle.shard_store.proofs.store.Store.close.Goals as goal

pub returns-in-Some : goal.returns-in-Some
returns-in-Some c = let held = some_case c.first_held-held.result c.in-Some.shard _ _ c.in-Some.is c.first_held-held.ensures in let v = c.pass.inside.desk.seat.me.0 in let idle = c.pass.invariant.0.0.1 in let f = closes _ _ v _ _ idle.2 c.close_with-closed.ensures.values.2 in let n = slots_counts c.close_with-closed.result.slots in (
  subst (λ (k : ℕ). c.in-Some.shard < k) (c.close_with-closed.ensures.counts.1 ∙ ap (λ s. s.id.slots) c.self.view_is) held.0,
  λ alone. f.3 (all_alone v idle.1 (subst IsAlone (ap (λ p. p.seen) (sym c.pass.view_is)) alone)) c.in-Some.shard (subst (λ (k : ℕ). c.in-Some.shard < k) n.0 held.0) held.1,
)

pub returns : goal.returns
returns c = let v = c.pass.inside.desk.seat.me.0 in let idle = c.pass.invariant.0.0.1 in let f = closes _ _ v _ _ idle.2 c.close_with-closed.ensures.values.2 in let n = slots_counts c.close_with-closed.result.slots in (
  f.0,
  subst (λ (s : Seen). Extends f.0 s) (ap (λ p. p.seen) c.pass.view_is) f.1.0,
  c.in_ok-join_slots.ensures (after f.0) (subst (λ (l : List (SlotValue Global)). HoldPartsOf (after f.0) l) (sym (c.as_slice.ensures.value ∙ c.in_ok-slots.ensures))
      (λ i d l. f.2 i d l (none_case c.first_held-held.result _ _ c.in_default.is c.first_held-held.ensures i (subst (λ (m : ℕ). i < m) (sym n.0) l)))),
)
