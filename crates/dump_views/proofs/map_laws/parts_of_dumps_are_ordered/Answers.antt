use Rattle.dump_views.proofs.Parts.{dump_ordered, chosen_ordered, shown_ordered}
use Rattle.dump_views.proofs.map_laws.parts_of_dumps_are_ordered.Goals as goal

pub returns : goal.returns
returns c = record { dumps = dump_ordered; chosen = chosen_ordered; shown = shown_ordered }
