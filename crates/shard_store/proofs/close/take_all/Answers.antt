use Rattle.std.proofs.Common.{◌≡◌, ◌≢◌, ℕ, ◌+◌, ◌<◌, Bool, List, false, get_or, arith, sym, ap, ◌∙◌, subst}
use lib.ListN.{get_elem?}
use Rattle.shard_store.proofs.Closed.{gone_more, left_less, taken_more}
use Rattle.shard_store.proofs.close.take_all.Goals as goal

pub loop-shard-preserved : goal.loop-shard-preserved
loop-shard-preserved c = let i = c.loop-shard.invariant in let t = c.take-slot.ensures in let e = t.others.1 in record {
  same = t.others.0 ∙ i.same;
  long = t.others.2 ∙ i.long;
  gone = subst (λ (l : List Bool). (k : ℕ) → k < c.loop-shard.shard + 1 → get_or l k false ≡ false) (sym e) (gone_more _ _ i.gone);
  left = λ k m n. let ne : k ≢ c.loop-shard.shard = omega arith in ap (λ (l : List Bool). get_or l k false) e ∙ left_less _ _ k ne (i.left k (omega arith) n);
  taken = λ s. let kept = c.keep-is_short.ensures s in taken_more _ _ _ _ _ (ap (λ xs. get_elem? xs c.loop-shard.shard) (sym i.same) ∙ t.value) (i.taken kept.0) kept.1;
}
