use Rattle.std.proofs.Common.{ap, ◌∙◌}
use Rattle.std.proofs.lemmas.List.{take_all}
use Rattle.map_core.specs.Union.{put_together}
use Rattle.map_core.proofs.union.gather.Goals as goal

pub returns : goal.returns
returns c = c.loop-map.invariant ∙ ap put_together (take_all c.loop-map.map-index c.args.maps.now c.loop-map-test.false)
