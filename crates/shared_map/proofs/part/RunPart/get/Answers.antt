use Rattle.std.proofs.Common.{◌≡◌, subst, List, Some, None}
use Rattle.std.specs.Prelude.{slice_index_or}
use Rattle.std.specs.FinMap.Entries.{find}
use Rattle.shared_map.specs.Name.{Name, name_cmp}
use Rattle.shared_map.specs.Marks.{IsSorted, entries_only, plain}
use Rattle.shared_map.proofs.Seats.{taken_find, free_find}
use Rattle.shared_map.proofs.part.RunPart.get.Goals as goal

pub returns-in-Taken : goal.returns-in-Taken
returns-in-Taken g c =
    let slots = c.slots-slots.result.now in
    subst (λ (l : List (Name × g.row.V.Denot)). IsSorted (entries_only l) → Some (slice_index_or slots c.in-Taken.place c.index-slots-place.result).1 ≡ find name_cmp c.args.name.now (plain (entries_only l))) c.slots-slots.ensures
    (λ s. taken_find c.args.name.now slots s c.in-Taken.place c.in-Taken.ensures c.index-slots-place.result)

pub returns-in-Free : goal.returns-in-Free
returns-in-Free g c =
    let slots = c.slots-slots.result.now in
    subst (λ (l : List (Name × g.row.V.Denot)). IsSorted (entries_only l) → None ≡ find name_cmp c.args.name.now (plain (entries_only l))) c.slots-slots.ensures
    (λ s. free_find c.args.name.now slots s c.in-Free.field-0 c.in-Free.ensures)
