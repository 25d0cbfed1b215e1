use Rattle.std.proofs.Common.{◌≡◌, ◌+◌, ◌++◌, [], ◌∷◌, take, sym, ap, ◌∙◌}
use Rattle.std.specs.FinMap as finite
use Rattle.std.proofs.lemmas.List.{take_all, take_more}
use Rattle.map_core.specs.PlainMap.{PlainMap}
use Rattle.map_core.specs.Union.{put_together}
use Rattle.map_core.specs.Private.Held.{only_bundle}
use Rattle.map_core.proofs.Covers.{same-union}
use Rattle.map_core.proofs.Unions.{put_more}
use Rattle.map_core.proofs.union.gather_bundles.Goals as goal

pub loop-map-preserved : goal.loop-map-preserved
loop-map-preserved c d =
    let maps = c.args.maps.now in let i = c.loop-map.map-index in let map = c.map-item.result in
    let more : take (i + 1) maps ≡ take i maps ++ map ∷ [] = take_more maps i map c.loop-map-test.true ∙ ap (λ x. take i maps ++ x ∷ []) (sym c.map-item.is) in
    same-union _ _ _ _ c.in_ok-cover.ensures c.loop-map.invariant d
    ∙ ap (λ (m : PlainMap). only_bundle (finite.get m d)) (sym (ap put_together more ∙ put_more (take i maps) map))

pub returns : goal.returns
returns c = λ d.
    c.loop-map.invariant d
    ∙ ap (λ (m : PlainMap). only_bundle (finite.get m d)) (ap put_together (take_all c.loop-map.map-index c.args.maps.now c.loop-map-test.false))
