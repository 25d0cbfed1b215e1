use Rattle.std.proofs.Common.{take}
use Rattle.map_core.specs.Union.{put_together}
use Rattle.map_core.specs.Private.Held.{HaveSameBundles}
use Rattle.map_core.specs.Private.Turns.{put_in_turn}
use Rattle.map_core.proofs.union.gather_bundles.Given as goal

-- the entries so far show the bundles of the maps so far
abbrev pub invariant-loop-map : goal.invariant-loop-map
invariant-loop-map l = HaveSameBundles (put_in_turn l.entries.items) (put_together (take l.map-index l.maps))
