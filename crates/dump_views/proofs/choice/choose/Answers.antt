use Rattle.std.proofs.Common.{◌≡◌, ap, subst, ◌∙◌}
use Rattle.std.specs.List.{filter}
use Rattle.std.proofs.lemmas.List.Elements.{filter_agree}
use Rattle.spiffe_doc.specs.Authority.{BundleValue}
use Rattle.map_core.specs.Name.{Name}
use Rattle.frame_front.specs.Dump.{Domains}
use Rattle.dump_views.specs.Choice.{is_named, chosen, AreThere, IsFirstMissing}
use Rattle.dump_views.specs.Private.Names.{has}
use Rattle.dump_views.proofs.Choices.{missing_too, there_too}
use Rattle.dump_views.proofs.choice.choose.Goals as goal

pub returns-in-Some-clause-err : goal.returns-in-Some-clause-err
returns-in-Some-clause-err c =
    let is : c.in_ok-some.some ≡ chosen c.args.names.now c.args.domains =
    c.in_ok-some.ensures ∙ ap (filter (λ (i : Name × BundleValue). has c.in_ok-wanted.wanted i.0)) c.pairs.ensures
    ∙ filter_agree (λ (i : Name × BundleValue). has c.in_ok-wanted.wanted i.0) (λ (i : Name × BundleValue). is_named c.args.names.now i.0)
    (λ i. c.in_ok-wanted.ensures i.0) c.args.domains in
    let missing = rw c.in-Some.is at c.in_ok-place.ensures.some in
    missing_too c.args.names.now c.args.domains c.in-Some.place
    (subst (λ (items : Domains). IsFirstMissing c.args.names.now items c.in-Some.place) (c.pairs-2.ensures ∙ is) missing)

pub returns-clause-ok : goal.returns-clause-ok
returns-clause-ok c =
    let is : c.in_ok-some.some ≡ chosen c.args.names.now c.args.domains =
    c.in_ok-some.ensures ∙ ap (filter (λ (i : Name × BundleValue). has c.in_ok-wanted.wanted i.0)) c.pairs.ensures
    ∙ filter_agree (λ (i : Name × BundleValue). has c.in_ok-wanted.wanted i.0) (λ (i : Name × BundleValue). is_named c.args.names.now i.0)
    (λ i. c.in_ok-wanted.ensures i.0) c.args.domains in
    let there = rw c.in-None.is at c.in_ok-place.ensures.none in
    (is, there_too c.args.names.now c.args.domains (subst (λ (items : Domains). AreThere c.args.names.now items) (c.pairs-2.ensures ∙ is) there))
