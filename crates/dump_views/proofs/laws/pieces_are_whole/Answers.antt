use Rattle.dump_views.proofs.PieceLaws.{pieces_are_whole}
use Rattle.dump_views.proofs.laws.pieces_are_whole.Goals as goal

pub returns : goal.returns
returns c = pieces_are_whole
