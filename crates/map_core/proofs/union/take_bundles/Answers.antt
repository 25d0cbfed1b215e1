use Rattle.std.proofs.Common.{◌≡◌, length, ap, ◌∙◌, arith}
use Rattle.std.proofs.lemmas.List.{nil_from_length}
use Rattle.map_core.specs.PlainMap.{bundles_among, bundles}
use Rattle.map_core.proofs.Entries.{all_pushed}
use Rattle.map_core.proofs.Turns.{last_ones, bundles-last}
use Rattle.map_core.proofs.union.take_bundles.Goals as goal

pub returns : goal.returns
returns c =
    let rest = c.loop-domain.rest.items in let all = c.in_ok-rest.rest.items in
    let none : length rest ≡ 0 = omega (arith, c.in_default.ensures.cases.0) in
    let taken_are = all_pushed c.loop-domain.taken.items (bundles_among (last_ones rest)) (bundles_among (last_ones all)) c.loop-domain.invariant (ap (λ es. bundles_among (last_ones es)) (nil_from_length rest none)) in
    c.from_pairs.ensures ∙ taken_are ∙ bundles-last all c.in_ok-rest.ensures.sorted ∙ ap bundles c.in_ok-rest.ensures.same
