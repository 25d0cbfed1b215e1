use Rattle.std.proofs.Common.{◌≡◌, map, take}
use Rattle.std.specs.Prelude.{flat_map}
use Rattle.snapshots.specs.Files.{domain_files}
use Rattle.snapshots.specs.Deeds.{then_done}
use Rattle.snapshots.specs.Deeds.Deed.{Put}
use Rattle.snapshots.proofs.updating.put_domains.Given as goal

abbrev pub invariant-loop-item : goal.invariant-loop-item
invariant-loop-item g l = g.F.Folder.done l.folder ≡ then_done (g.F.Folder.done l.initial.folder) (map Put (flat_map domain_files (take l.item-index l.domains)))
