-- What the levels of a map show.
use Rattle.std.specs.Prelude.{List, [], Option, Some, None}
use Rattle.shared_map.specs.declared.level.Level.{Level}
use Rattle.shared_map.specs.declared.top.Top.{Top}
use Rattle.shared_map.specs.declared.top.Top.TheVariants.{Run, Group, Region, Whole}
use Rattle.shared_map.specs.Name.{Name}
use Rattle.shared_map.specs.Marks.{Marks, entries_only, marks_of}

-- the marks of a level of runs
abbrev pub group_marks : {V : Type 0} → Level (List (Name × V)) → Marks V
group_marks group = marks_of entries_only group.parts

-- the marks of a level of groups
abbrev pub region_marks : {V : Type 0} → Level (Level (List (Name × V))) → Marks V
region_marks region = marks_of group_marks region.parts

-- the marks of the top of a map
abbrev pub marks : {V : Type 0} → Top V → Marks V
marks (Run run) = entries_only run
marks (Group group) = group_marks group
marks (Region region) = region_marks region
marks (Whole whole) = marks_of region_marks whole.parts

-- the marks of a map
abbrev pub top_marks : {V : Type 0} → Option (Top V) → Marks V
top_marks None = []
top_marks (Some top) = marks top
