use Rattle.dump_views.proofs.DigestLaws.{digest_of_maps}
use Rattle.dump_views.proofs.laws.digest_of_maps.Goals as goal

pub returns : goal.returns
returns c = digest_of_maps
