use Rattle.std.proofs.Common.{◌≡◌, ◌+◌, List, Bool, ◌∷◌, ◌++◌, [], cond, take, sym, ap, ◌∙◌}
use Rattle.std.specs.List.{filter}
use Rattle.std.proofs.lemmas.List.{take_all, take_more}
use Rattle.std.proofs.lemmas.List.Elements.{filter-append}
use Rattle.map_core.specs.Name.{Name}
use Rattle.spiffe_doc.specs.Authority.{BundleValue}
use Rattle.dump_views.specs.Private.Names.{has}
use Rattle.dump_views.proofs.choice.keep.Goals as goal

one_more : {X : Type 0} (test : X → Bool) (some new taken : List X) (x : X) → some ≡ filter test taken → new ≡ some ++ cond (test x) (x ∷ []) []
    → new ≡ filter test (taken ++ x ∷ [])
one_more test some new taken x kept added = added ∙ ap (λ s. s ++ cond (test x) (x ∷ []) []) kept ∙ sym (filter-append test taken (x ∷ []))

pub loop-item-preserved : goal.loop-item-preserved
loop-item-preserved c =
    let domains = c.args.domains.now in let i = c.loop-item.item-index in let item = c.item-item.result in
    let more : take (i + 1) domains ≡ take i domains ++ item ∷ [] = take_more domains i item c.loop-item-test.true ∙ ap (λ x. take i domains ++ x ∷ []) (sym c.item-item.is) in
    let test = λ (d : Name × BundleValue). has c.args.wanted.now d.0 in
    one_more test c.loop-item.some.items _ (take i domains) item c.loop-item.invariant c.in_ok-push_wanted.ensures ∙ ap (filter test) (sym more)

pub returns : goal.returns
returns c =
    let test = λ (d : Name × BundleValue). has c.args.wanted.now d.0 in
    c.from_pairs.ensures ∙ c.loop-item.invariant ∙ ap (filter test) (take_all c.loop-item.item-index c.args.domains.now c.loop-item-test.false)
