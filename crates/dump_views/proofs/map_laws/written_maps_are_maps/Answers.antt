use Rattle.dump_views.proofs.MapLaws.{map_of_domains}
use Rattle.dump_views.proofs.map_laws.written_maps_are_maps.Goals as goal

pub returns : goal.returns
returns c = map_of_domains
