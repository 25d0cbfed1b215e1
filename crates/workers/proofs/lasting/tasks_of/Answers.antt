use Rattle.std.proofs.Common.{◌≡◌, ◌++◌, [], map, refl, sym, ap, ◌∙◌, append-nil, arith, rules}
use Rattle.std.specs.Vec.Iter.{into_iter_items}
use Rattle.workers.specs.declared.lasting.Task.{Task}
use Rattle.workers.proofs.WorkedLists.{nil_if}
use Rattle.workers.proofs.lasting.tasks_of.Goals as goal

pub loop-pass-init : goal.loop-pass-init
loop-pass-init g c =
    let none = c.in_ok-tasks.ensures.items in (
      refl,
      search rules,
      search rules,
      ap (map (λ (w : Task g.row.V.Denot). w.pass)) none,
      ap (λ l. map (λ (w : Task g.row.V.Denot). w.arrivals) l ++ into_iter_items c.into_iter-left.result) none,
      search rules,
      search rules,
    )

pub returns-clause-arrivals : goal.returns-clause-arrivals
returns-clause-arrivals g c =
    let inv = c.loop-pass.invariant in
    let none : into_iter_items c.loop-pass.left ≡ [] = nil_if (into_iter_items c.loop-pass.left) (omega (arith, inv.2, inv.5, c.in-None.ensures.steps.0)) in
    sym (append-nil _) ∙ (ap (λ l. map (λ (w : Task g.row.V.Denot). w.arrivals) c.loop-pass.tasks.items ++ l) (sym none) ∙ (inv.4 ∙ c.into_iter-left.ensures.rest))
