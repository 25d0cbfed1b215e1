use Rattle.std.proofs.Common.{◌≡◌, Option, Some, sym, ap, subst, ◌∙◌}
use Rattle.std.specs.FinMap as finite
use Rattle.map_core.specs.Name.{Name}
use Rattle.map_core.specs.declared.held.Holding.{Holding}
use Rattle.map_core.specs.declared.table.RowEffect as program
use Rattle.map_core.specs.PlainMap.{PlainMap, union}
use Rattle.map_core.specs.Private.Held.{is_mark, HasNoMark}
use Rattle.map_core.specs.Private.Outcome.{left_by}
use Rattle.map_core.proofs.Apart.{union-bundle, no_mark-put}
use Rattle.map_core.proofs.contents.Contents.settle.Goals.{in-Published+in_ok-insert-in-Published, in-Mark+in_ok-mark-in-Mark}
use Rattle.map_core.proofs.contents.Contents.settle.Goals as goal

pub invariant_of-self : goal.invariant_of-self
invariant_of-self c =
    let stored = no_mark-put c.self.inside.bundles c.in-Some.domain (Some c.in-Put.held) (ap (λ (h : Holding). is_mark (Some h)) c.in-Published.is) c.self.invariant.1 in
    (c.self.invariant.0, subst HasNoMark (sym c.in_ok-insert-in-Published.ensures.ok) stored)

-- a bundle is held among the bundles, and a mark among the marks
pub returns-after-held-clause-left : goal.returns-after-held-clause-left
returns-after-held-clause-left c =
    let d = c.in-Some.domain in let held = c.in-Put.held in
    let left : finite.insert c.args.self.now d held ≡ left_by c.args.self.now c.args.domain c.args.outcome =
    sym (ap (λ (x : Option Name). left_by c.args.self.now x c.args.outcome) c.in-Some.is ∙ ap (λ (o : program.RowEffect). left_by c.args.self.now (Some d) o) c.in-Put.is) in
    elim c.match-held.branch [
      | in-Published+in_ok-insert-in-Published w ↦
          w.self-is ∙ ap (union w.self.inside.marks) w.in_ok-insert-in-Published.ensures.ok ∙ union-bundle w.self.inside.marks w.self.inside.bundles d held
          ∙ ap (λ (m : PlainMap). finite.insert m d held) w.self.view_is ∙ left
      | in-Mark+in_ok-mark-in-Mark w ↦
          w.self-is ∙ w.in_ok-mark-in-Mark.ensures.ok ∙ ap (λ (h : Holding). finite.insert c.args.self.now d h) (sym w.in-Mark.is) ∙ left
    ]
