use Rattle.std.proofs.Common.{take, true}
use Rattle.std.specs.Prelude.{flat_map}
use Rattle.snapshots.specs.Files.{domain_files}
use Rattle.snapshots.specs.Update.{AreThere}
use Rattle.snapshots.proofs.updating.is_current.Given as goal

abbrev pub invariant-loop-item : goal.invariant-loop-item
invariant-loop-item g l = AreThere (g.F.Folder.shows l.folder) (flat_map domain_files (take l.item-index l.domains)) true
