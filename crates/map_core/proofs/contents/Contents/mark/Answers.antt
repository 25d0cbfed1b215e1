use Rattle.std.proofs.Common.{◌≡◌, ℕ, Some, None, refl, sym, ap, subst, ◌∙◌}
use Rattle.std.specs.FinMap as finite
use Rattle.map_core.specs.declared.held.Holding.TheVariants.{Mark}
use Rattle.map_core.specs.PlainMap.{PlainMap, union}
use Rattle.map_core.specs.Private.Held.{HasNoBundle, HasNoMark}
use Rattle.map_core.proofs.Apart.{after, on_ok, on_err, is_bare, is_there, union-put, union-bare, union-hidden, no_bundle-put, no_mark-put}
use Rattle.map_core.specs.Name.{Name}
use Rattle.map_core.proofs.contents.Contents.mark.Goals as goal

pub invariant_of-self : goal.invariant_of-self
invariant_of-self c =
    let marks = c.self.inside.marks in let no_bundle = c.self.invariant.0 in
    let marked = no_bundle-put marks c.args.domain (Some (Mark c.args.sequence)) refl no_bundle in (
      after HasNoBundle c.insert.result c.insert.new.self (finite.insert marks c.args.domain (Mark c.args.sequence)) marks c.insert.ensures.ok c.insert.ensures.err marked no_bundle,
      c.self.invariant.1,
    )

pub returns-then-is_none-clause-ok : goal.returns-then-is_none-clause-ok
returns-then-is_none-clause-ok c =
    let marks = c.self.inside.marks in let bundles = c.self.inside.bundles in
    let bare = is_bare c.get.result (finite.get bundles c.args.domain) c.is_none.result c.get.ensures c.is_none.ensures c.if-is_none.true in
    on_ok c.insert.result (λ e.
    ap (λ (m : PlainMap). union m bundles) e ∙ union-bare marks bundles c.args.domain (Some (Mark c.args.sequence)) bare
    ∙ ap (λ (m : PlainMap). finite.insert m c.args.domain (Mark c.args.sequence)) c.self.view_is) c.insert.ensures.ok

-- the marks after the step, in which a copy of the name is used
marked : (marks new : PlainMap) (d copy : Name) (s : ℕ) → new ≡ finite.insert marks copy (Mark s) → copy ≡ d → new ≡ finite.insert marks d (Mark s)
marked marks new d copy s is same = is ∙ ap (λ (x : Name). finite.insert marks x (Mark s)) same

pub invariant_of-self-2 : goal.invariant_of-self-2
invariant_of-self-2 c =
    let marks = c.self.inside.marks in let bundles = c.self.inside.bundles in
    let new = marked marks c.insert-2.new.self c.args.domain c.in_ok-copy.field-0 c.args.sequence c.in_ok-insert.ensures.ok c.in_ok-copy.ensures in
    let removed = no_mark-put bundles c.args.domain None refl c.self.invariant.1 in (
      subst HasNoBundle (sym new) (no_bundle-put marks c.args.domain (Some (Mark c.args.sequence)) refl c.self.invariant.0),
      after HasNoMark c.remove.result c.remove.new.self (finite.remove bundles c.args.domain) bundles c.remove.ensures.ok c.remove.ensures.err removed c.self.invariant.1,
    )

pub returns-clause-ok : goal.returns-clause-ok
returns-clause-ok c =
    let marks = c.self.inside.marks in let bundles = c.self.inside.bundles in
    let new = marked marks c.insert-2.new.self c.args.domain c.in_ok-copy.field-0 c.args.sequence c.in_ok-insert.ensures.ok c.in_ok-copy.ensures in
    on_ok c.remove.result (λ e.
    (λ i. union (new i) (e i)) ∙ union-put marks bundles c.args.domain (Some (Mark c.args.sequence)) None
    ∙ ap (λ (m : PlainMap). finite.insert m c.args.domain (Mark c.args.sequence)) c.self.view_is) c.remove.ensures.ok

pub returns-clause-err : goal.returns-clause-err
returns-clause-err c =
    let marks = c.self.inside.marks in let bundles = c.self.inside.bundles in
    let new = marked marks c.insert-2.new.self c.args.domain c.in_ok-copy.field-0 c.args.sequence c.in_ok-insert.ensures.ok c.in_ok-copy.ensures in
    let there = is_there c.get.result (finite.get bundles c.args.domain) c.is_none.result c.get.ensures c.is_none.ensures c.if-is_none.false in
    on_err c.remove.result (λ e.
    (λ i. union (new i) (e i)) ∙ union-hidden marks bundles c.args.domain (Some (Mark c.args.sequence)) there ∙ c.self.view_is) c.remove.ensures.err
