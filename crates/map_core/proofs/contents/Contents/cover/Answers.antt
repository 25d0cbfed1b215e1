use Rattle.std.proofs.Common.{◌++◌, ap, ◌∙◌}
use Rattle.std.specs.FinMap as finite
use Rattle.map_core.specs.PlainMap.{union}
use Rattle.map_core.specs.Private.Turns.{put_in_turn}
use Rattle.map_core.proofs.Apart.{on_ok}
use Rattle.map_core.proofs.Covers.{covered, covered_by_both, same-view}
use Rattle.map_core.proofs.contents.Contents.cover.Goals.{then-len, else-len+in_ok-push_all}
use Rattle.map_core.proofs.contents.Contents.cover.Goals as goal

pub returns : goal.returns
returns c =
    let old = c.args.out.now.items in let marks = c.self.inside.marks in let bundles = c.self.inside.bundles in
    elim c.if-len.branch [
      | then-len w ↦
          on_ok c.push_all-2.result (λ e.
          same-view _ _ _ _ (e ∙ ap (λ items. items ++ finite.entries bundles) (ap (λ (v : _). v.items) w.out-is ∙ w.take_out_marked.ensures)) (ap (union (put_in_turn old)) c.self.view_is)
          (covered old marks bundles c.self.invariant.0)) c.push_all-2.ensures
      | else-len+in_ok-push_all w ↦
          on_ok c.push_all-2.result (λ e.
          same-view _ _ _ _ (e ∙ ap (λ items. items ++ finite.entries bundles) (ap (λ (v : _). v.items) w.out-is ∙ w.in_ok-push_all.ensures)) (ap (union (put_in_turn old)) c.self.view_is)
          (covered_by_both old marks bundles)) c.push_all-2.ensures
    ]
