use Rattle.std.proofs.Common.{sym, ap, ◌∙◌}
use Rattle.shared_map.specs.Marks.{plain}
use Rattle.shared_map.specs.Top.{top_marks}
use Rattle.shared_map.proofs.Maps.{entries_is}
use Rattle.shared_map.proofs.map.SharedMap.iter.Goals as goal

pub returns-in_default : goal.returns-in_default
returns-in_default g c = c.new.ensures ∙ ap (λ o. plain (top_marks o)) (sym c.in_default.is) ∙ entries_is c.args.self.now (top_marks c.self.inside.top) c.self.view_is c.self.invariant.0

pub returns : goal.returns
returns g c = c.entries.ensures ∙ ap (λ o. plain (top_marks o)) (sym c.in-Some.is) ∙ entries_is c.args.self.now (top_marks c.self.inside.top) c.self.view_is c.self.invariant.0
