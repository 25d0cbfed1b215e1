use Rattle.std.proofs.Common.{ap, sym, ◌∙◌, append-nil}
use Rattle.shared_map.specs.Marks.{plain}
use Rattle.shared_map.specs.Top.{marks}
use Rattle.shared_map.specs.Walk.{run_entries, group_entries, region_entries}
use Rattle.shared_map.proofs.Plain.{plain-entries_only}
use Rattle.shared_map.proofs.Walks.{plain_runs, plain_groups, plain_regions}
use Rattle.shared_map.proofs.top.Top.entries.Goals as goal

pub returns-in-Run : goal.returns-in-Run
returns-in-Run g c = c.new.ensures ∙ append-nil _ ∙ c.slots.ensures ∙ sym (plain-entries_only c.in-Run.run') ∙ ap (λ t. plain (marks t)) (sym c.in-Run.is)

pub returns-in-Group : goal.returns-in-Group
returns-in-Group g c = c.new-in-Group.ensures ∙ append-nil _ ∙ ap run_entries c.parts.ensures ∙ sym (plain_runs c.in-Group.group.parts) ∙ ap (λ t. plain (marks t)) (sym c.in-Group.is)

pub returns-in-Region : goal.returns-in-Region
returns-in-Region g c = c.new-in-Region.ensures ∙ append-nil _ ∙ ap group_entries c.parts-in-Region.ensures ∙ sym (plain_groups c.in-Region.region.parts) ∙ ap (λ t. plain (marks t)) (sym c.in-Region.is)

pub returns-in-Whole : goal.returns-in-Whole
returns-in-Whole g c = c.new-in-Whole.ensures ∙ ap region_entries c.parts-in-Whole.ensures ∙ sym (plain_regions c.in-Whole.whole.parts) ∙ ap (λ t. plain (marks t)) (sym c.in-Whole.is)
