use Rattle.std.proofs.Common.{Some, None, sym, ap, ◌∙◌}
use Rattle.std.specs.Prelude.{is_some}
use Rattle.std.specs.FinMap as finite
use Rattle.shared_map.specs.Name.{name_cmp}
use Rattle.shared_map.specs.Marks.{plain}
use Rattle.shared_map.specs.Top.{top_marks}
use Rattle.shared_map.proofs.Maps.{shows_at, get_is, is_some_copied, remove_absent, removed, removed_sorted, removed_less, nothing}
use Rattle.shared_map.proofs.map.SharedMap.remove.Goals as goal

pub returns-in_default-clause-ok : goal.returns-in_default-clause-ok
returns-in_default-clause-ok g c =
    let h = shows_at c.in_default.is c.self.view_is c.self.invariant in
    c.self.view_is ∙ remove_absent c.args.self.now c.args.name.now (ap is_some (sym (get_is c.args.self.now (top_marks None) h.view h.sorted c.args.name.now)))

pub returns-then-is_none-clause-ok : goal.returns-then-is_none-clause-ok
returns-then-is_none-clause-ok g c =
    let h = shows_at c.in-Some.is c.self.view_is c.self.invariant in
    let found = c.get.ensures h.sorted ∙ get_is c.args.self.now (top_marks (Some c.in-Some.top)) h.view h.sorted c.args.name.now in
    h.view ∙ remove_absent c.args.self.now c.args.name.now (ap is_some (sym found) ∙ is_some_copied c.get.result ∙ c.if-is_none.ensures)

pub invariant_of-self-else-self-eq0 : goal.invariant_of-self-else-self-eq0
invariant_of-self-else-self-eq0 g c =
    let h = shows_at c.in-Some.is c.self.view_is c.self.invariant in
    let old = top_marks (Some c.in-Some.top) in
    let new = top_marks (Some c.take_out.new.self) in
    let same = c.in_ok-take_out.ensures.ok h.sorted in
    let found = c.get.ensures h.sorted ∙ get_is c.args.self.now old h.view h.sorted c.args.name.now in
    let there = ap is_some (sym found) ∙ is_some_copied c.get.result ∙ c.if-is_none.ensures in (
      removed_sorted c.args.self.now old h.view h.sorted c.args.name.now new same,
      removed_less c.args.self.now old h.view h.sorted c.args.name.now new same c.self.inside.len _ there h.counted c.saturating_sub-self-inside.ensures,
    )

pub returns-then-self-eq0-clause-ok : goal.returns-then-self-eq0-clause-ok
returns-then-self-eq0-clause-ok g c =
    let h = shows_at c.in-Some.is c.self.view_is c.self.invariant in
    let old = top_marks (Some c.in-Some.top) in
    let new = top_marks (Some c.take_out.new.self) in
    let same = c.in_ok-take_out.ensures.ok h.sorted in
    let found = c.get.ensures h.sorted ∙ get_is c.args.self.now old h.view h.sorted c.args.name.now in
    let there = ap is_some (sym found) ∙ is_some_copied c.get.result ∙ c.if-is_none.ensures in
    let count = removed_less c.args.self.now old h.view h.sorted c.args.name.now new same c.self.inside.len c.saturating_sub-self-inside.result there h.counted c.saturating_sub-self-inside.ensures in
    ap (λ o. finite.from_sorted {R = name_cmp} (plain (top_marks o))) c.take.ensures.after
    ∙ ap (finite.from_sorted {R = name_cmp}) (sym (nothing (plain new) _ count c.if-self-eq0.true))
    ∙ removed c.args.self.now old h.view h.sorted c.args.name.now new same

pub returns-else-self-eq0-clause-ok : goal.returns-else-self-eq0-clause-ok
returns-else-self-eq0-clause-ok g c =
    let h = shows_at c.in-Some.is c.self.view_is c.self.invariant in
    removed c.args.self.now (top_marks (Some c.in-Some.top)) h.view h.sorted c.args.name.now (top_marks (Some c.take_out.new.self)) (c.in_ok-take_out.ensures.ok h.sorted)
