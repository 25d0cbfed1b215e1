use Rattle.std.proofs.Common.{ap, sym, subst, ◌∙◌}
use Rattle.std.specs.Cmp.Lexicographic.{nat_list_cmp_total}
use Rattle.std.specs.List.Sorted.{IsSortedByKey}
use Rattle.std.specs.Ordering.{is_lt}
use Rattle.std.proofs.lemmas.List.Sorted.{ranks_by, answers_always}
use Rattle.map_core.specs.declared.held.Holding.{Holding}
use Rattle.map_core.specs.Name.{Name, name_cmp}
use Rattle.map_core.specs.Private.Turns.{put_in_turn}
use Rattle.map_core.proofs.Turns.{same-sorted}
use Rattle.map_core.proofs.union.in_order.Goals as goal

pub returns-clause-sorted : goal.returns-clause-sorted
returns-clause-sorted c =
    subst (IsSortedByKey (λ (e : Name × Holding). e.0) name_cmp) (sym c.from.ensures.0)
    (c.in_ok-sort_by.ensures.sorted _ (ranks_by nat_list_cmp_total (λ (e : Name × Holding). e.0)) (answers_always _ _ _ (λ f a r f' k. ap is_lt k.met)))

pub returns-clause-same : goal.returns-clause-same
returns-clause-same c =
    ap put_in_turn c.from.ensures.0
    ∙ same-sorted _ _ (c.in_ok-sort_by.ensures.stable _ (ranks_by nat_list_cmp_total (λ (e : Name × Holding). e.0)) (answers_always _ _ _ (λ f a r f' k. ap is_lt k.met)))
