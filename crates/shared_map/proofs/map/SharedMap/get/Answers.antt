use Rattle.std.proofs.Common.{ap, sym, subst, ◌∙◌}
use Rattle.std.specs.FinMap.Entries.{find}
use Rattle.shared_map.specs.Name.{name_cmp}
use Rattle.shared_map.specs.Marks.{IsSorted, plain}
use Rattle.shared_map.specs.Top.{top_marks}
use Rattle.shared_map.proofs.Maps.{get_is}
use Rattle.shared_map.proofs.map.SharedMap.get.Goals as goal

pub returns-in-None : goal.returns-in-None
returns-in-None g c =
    ap (λ o. find name_cmp c.args.name.now (plain (top_marks o))) (sym c.in-None.is) ∙ get_is c.args.self.now (top_marks c.self.inside.top) c.self.view_is c.self.invariant.0 c.args.name.now

pub returns-in-Some : goal.returns-in-Some
returns-in-Some g c =
    c.get.ensures (subst (λ o. IsSorted (top_marks o)) c.in-Some.is c.self.invariant.0)
    ∙ ap (λ o. find name_cmp c.args.name.now (plain (top_marks o))) (sym c.in-Some.is) ∙ get_is c.args.self.now (top_marks c.self.inside.top) c.self.view_is c.self.invariant.0 c.args.name.now
