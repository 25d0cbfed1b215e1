-- The entries of levels, one after another.
use Rattle.std.proofs.Common.{◌≡◌, List, [], ◌∷◌, ◌++◌, refl, ◌∙◌}
use Rattle.std.specs.List.{flat_map}
use Rattle.shared_map.specs.declared.level.Level.{Level}
use Rattle.shared_map.specs.Name.{Name}
use Rattle.shared_map.specs.Marks.{Marks, entries_only, fenced, marks_of, plain}
use Rattle.shared_map.specs.Top.{group_marks, region_marks}
use Rattle.shared_map.specs.Walk.{run_entries, group_entries, region_entries}
use Rattle.shared_map.proofs.Plain.{plain-entries_only, plain-append}

module _ {P V : Type 0} (f : P → Marks V) (shows : P → List (Name × V)) (is : (p : P) → plain (f p) ≡ shows p) where
  plain_fenced : (ps : List (Name × P)) → plain (fenced f ps) ≡ flat_map (λ p. shows p.1) ps
  plain_fenced [] = refl
  plain_fenced (p ∷ ps) = plain-append (f p.1) (fenced f ps) ∙ (λ i. is p.1 i ++ plain_fenced ps i)

  pub plain_parts : (ps : List (Name × P)) → plain (marks_of f ps) ≡ flat_map (λ p. shows p.1) ps
  plain_parts [] = refl
  plain_parts (p ∷ ps) = plain-append (f p.1) (fenced f ps) ∙ (λ i. is p.1 i ++ plain_fenced ps i)

pub plain_runs : {V : Type 0} (runs : List (Name × List (Name × V))) → plain (marks_of entries_only runs) ≡ run_entries runs
plain_runs {V} runs = plain_parts entries_only (λ (es : List (Name × V)). es) plain-entries_only runs

pub plain_groups : {V : Type 0} (groups : List (Name × Level (List (Name × V)))) → plain (marks_of group_marks groups) ≡ group_entries groups
plain_groups {V} groups = plain_parts group_marks (λ (group : Level (List (Name × V))). run_entries group.parts) (λ group. plain_runs group.parts) groups

pub plain_regions : {V : Type 0} (regions : List (Name × Level (Level (List (Name × V))))) → plain (marks_of region_marks regions) ≡ region_entries regions
plain_regions {V} regions = plain_parts region_marks (λ (region : Level (Level (List (Name × V)))). group_entries region.parts) (λ region. plain_groups region.parts) regions
