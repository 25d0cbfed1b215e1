-- The entries of runs, of groups of runs and of regions of groups, in order.
use Rattle.std.specs.Prelude.{List, ◌++◌}
use Rattle.std.specs.List.{flat_map}
use Rattle.shared_map.specs.declared.level.Level.{Level}
use Rattle.shared_map.specs.Name.{Name}

abbrev pub run_entries : {V : Type 0} → List (Name × List (Name × V)) → List (Name × V)
run_entries runs = flat_map (λ run. run.1) runs

abbrev pub group_entries : {V : Type 0} → List (Name × Level (List (Name × V))) → List (Name × V)
group_entries groups = flat_map (λ group. run_entries group.1.parts) groups

abbrev pub region_entries : {V : Type 0} → List (Name × Level (Level (List (Name × V)))) → List (Name × V)
region_entries regions = flat_map (λ region. group_entries region.1.parts) regions

-- what is left of a run, of its group, of its region and of the map
abbrev pub left : {V : Type 0} → List (Name × V) → List (Name × List (Name × V)) → List (Name × Level (List (Name × V))) → List (Name × Level (Level (List (Name × V)))) → List (Name × V)
left slots runs groups regions = slots ++ (run_entries runs ++ (group_entries groups ++ region_entries regions))
