use Rattle.std.proofs.Common.{◌≡◌, Some, sym, ap, subst, ◌∙◌}
use Rattle.std.specs.FinMap as finite
use Rattle.std.specs.Vec.Iter.{into_iter_items}
use Rattle.map_core.specs.declared.held.Holding.{Holding}
use Rattle.map_core.specs.PlainMap.{PlainMap, union}
use Rattle.map_core.specs.Private.Held.{is_mark, HasNoMark}
use Rattle.map_core.specs.Private.Turns.{with_entries}
use Rattle.map_core.proofs.Apart.{union-bundle, no_mark-put}
use Rattle.map_core.proofs.contents.Contents.from_entries.Goals as goal

pub invariant_of-all : goal.invariant_of-all
invariant_of-all c =
    let stored = no_mark-put c.all.inside.bundles c.in-Some.domain (Some c.in-Some.held) (ap (λ (h : Holding). is_mark (Some h)) c.in-Published.is) c.all.invariant.1 in
    (c.all.invariant.0, subst HasNoMark (sym c.in_ok-insert-in-Published.ensures.ok) stored)

pub loop-domain-preserved-in-Continue-1 : goal.loop-domain-preserved-in-Continue-1
loop-domain-preserved-in-Continue-1 c =
    let marks = c.all.inside.marks in let d = c.in-Some.domain in let held = c.in-Some.held in
    let stored : union marks c.insert.new.self ≡ finite.insert c.loop-domain.all d held = ap (union marks) c.in_ok-insert-in-Published.ensures.ok
    ∙ union-bundle marks c.all.inside.bundles d held ∙ ap (λ (m : PlainMap). finite.insert m d held) c.all.view_is in
    ap (λ (m : PlainMap). with_entries m (into_iter_items c.next.new.self)) stored ∙ ap (with_entries c.loop-domain.all) (sym c.in-Some.ensures.steps.0) ∙ c.loop-domain.invariant
