use Rattle.std.proofs.Common.{◌≡◌, subst, List}
use Rattle.std.specs.Option.{option_copied}
use Rattle.std.specs.FinMap.Entries.{find}
use Rattle.shared_map.specs.Name.{Name, name_cmp}
use Rattle.shared_map.specs.Marks.{IsSorted, plain, marks_of}
use Rattle.shared_map.proofs.Places.{read_at}
use Rattle.shared_map.proofs.Levels.{find_reached}
use Rattle.shared_map.proofs.level.LevelPart.get.Goals as goal

pub returns : goal.returns
returns g c =
    subst (λ (l : List (Name × g.row.P.Denot)). IsSorted (marks_of g.P.Part.marks l) → option_copied c.get.result ≡ find name_cmp c.args.name.now (plain (marks_of g.P.Part.marks l))) c.slots-parts.ensures
    (find_reached g.P.Part.marks _ _ _ c.in_ok-place.ensures _ (read_at c.in_ok-place.ensures.0 c.index-parts-place.result) (option_copied c.get.result) c.get.ensures)
