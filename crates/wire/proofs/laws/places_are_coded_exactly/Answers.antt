use Rattle.wire.proofs.PlaceLemmas.{place_coded}
use Rattle.wire.proofs.laws.places_are_coded_exactly.Goals as goal

pub returns : goal.returns
returns c = place_coded
