use Rattle.std.proofs.Common.{ap, ◌∙◌}
use Rattle.map_core.specs.PlainMap.{bundles_among, bundles}
use Rattle.map_core.proofs.Entries.{all_pushed}
use Rattle.map_core.proofs.Apart.{bundles-apart}
use Rattle.map_core.proofs.contents.Contents.snapshot.Goals as goal

pub returns : goal.returns
returns c =
    let pairs_are = all_pushed c.loop-domain.pairs.items (bundles_among c.loop-domain.domain-iterator) (bundles_among c.into_iter-domain-iterator.result) c.loop-domain.invariant (ap bundles_among c.in-None.ensures.steps.0) in
    c.from_pairs.ensures ∙ pairs_are ∙ ap bundles_among (c.into_iter-domain-iterator.ensures.into_iter_gives ∙ c.iter-domain-items.ensures)
    ∙ bundles-apart c.self.inside.marks c.self.inside.bundles c.self.invariant.0 c.self.invariant.1 ∙ ap bundles c.self.view_is
