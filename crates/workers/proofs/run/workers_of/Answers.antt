use Rattle.std.proofs.Common.{◌≡◌, ◌++◌, [], map, refl, sym, ap, ◌∙◌, append-nil, arith, rules}
use Rattle.std.specs.Vec.Iter.{into_iter_items}
use Rattle.workers.specs.declared.run.Worker.{Worker}
use Rattle.workers.proofs.FinishedLists.{nil_if}
use Rattle.workers.proofs.run.workers_of.Goals as goal

pub loop-pass-init : goal.loop-pass-init
loop-pass-init g c =
    let none = c.in_ok-workers.ensures.items in (
      refl,
      search rules,
      search rules,
      ap (map (λ (w : Worker g.row.S.Denot). w.pass)) none,
      ap (λ l. map (λ (w : Worker g.row.S.Denot). w.sessions) l ++ into_iter_items c.into_iter-left.result) none,
      search rules,
      search rules,
    )

pub returns-clause-sessions : goal.returns-clause-sessions
returns-clause-sessions g c =
    let inv = c.loop-pass.invariant in
    let none : into_iter_items c.loop-pass.left ≡ [] = nil_if (into_iter_items c.loop-pass.left) (omega (arith, inv.2, inv.5, c.in-None.ensures.steps.0)) in
    sym (append-nil _) ∙ (ap (λ l. map (λ (w : Worker g.row.S.Denot). w.sessions) c.loop-pass.workers.items ++ l) (sym none) ∙ (inv.4 ∙ c.into_iter-left.ensures.rest))
