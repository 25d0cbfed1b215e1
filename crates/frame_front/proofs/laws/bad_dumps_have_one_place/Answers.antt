use Rattle.frame_front.proofs.DumpPlaces.{one_place}
use Rattle.frame_front.proofs.laws.bad_dumps_have_one_place.Goals as goal

pub returns : goal.returns
returns c = one_place
