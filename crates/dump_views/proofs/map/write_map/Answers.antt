use Rattle.std.proofs.Common.{◌≡◌, ◌==◌, ◌++◌, ◌∷◌, [], false, length, map, take, codes, sym, ap, ◌∙◌, arith}
use Rattle.std.proofs.lemmas.List.{map_more, take_all, length-map, length-take-le}
use Rattle.dump_views.specs.Map.{shown}
use Rattle.dump_views.specs.Private.Writing.{domain_texts}
use Rattle.dump_views.proofs.Texts.{domain_behind, map_text-pieces}
use Rattle.dump_views.proofs.map.write_map.Goals as goal

pub loop-place-preserved : goal.loop-place-preserved
loop-place-preserved c =
    let xs = c.args.domains.now in
    let item = c.index-domains-place.result in
    let before = map (shown c.args.profile) (take c.loop-place.place xs) in
    let size : length before ≡ c.loop-place.place = length-map _ _ ∙ length-take-le c.loop-place.place xs (omega arith) in
    let more = map_more (shown c.args.profile) xs c.loop-place.place item c.loop-place-test.true ∙ ap (λ x. before ++ shown c.args.profile x ∷ []) (sym c.index-domains-place.is) in
    rw more
    (domain_behind (codes "{\"trust_domains\":{") c.loop-place.text.items _ _ before (shown c.args.profile item) _ c.loop-place.invariant c.in_ok-put_name.ensures
    c.in_ok-put_bundle.ensures (ap (λ n. n == 0) (sym size)))

pub returns : goal.returns
returns c =
    let xs = c.args.domains.now in
    let whole : take c.loop-place.place xs ≡ xs = take_all c.loop-place.place xs (omega arith) in
    c.in_ok-extend_from_slice.ensures.items
    ∙ ap (λ x. x ++ codes "}}") (c.loop-place.invariant ∙ ap (λ ys. codes "{\"trust_domains\":{" ++ domain_texts false (map (shown c.args.profile) ys)) whole)
    ∙ sym (map_text-pieces (map (shown c.args.profile) xs))
