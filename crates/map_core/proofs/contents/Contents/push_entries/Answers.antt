use Rattle.std.proofs.Common.{◌++◌, ap, ◌∙◌}
use Rattle.std.specs.FinMap as finite
use Rattle.map_core.specs.PlainMap.{union}
use Rattle.map_core.specs.Private.Turns.{put_in_turn}
use Rattle.map_core.proofs.Apart.{on_ok}
use Rattle.map_core.proofs.Unions.{pushed}
use Rattle.map_core.proofs.contents.Contents.push_entries.Goals as goal

pub returns : goal.returns
returns c =
    let out = c.args.out.now.items in let marks = c.self.inside.marks in let bundles = c.self.inside.bundles in
    on_ok c.push_all-2.result (λ e.
    ap put_in_turn (e ∙ ap (λ items. items ++ finite.entries bundles) c.in_ok-push_all.ensures)
    ∙ pushed out marks bundles ∙ ap (union (put_in_turn out)) c.self.view_is) c.push_all-2.ensures
