use Rattle.dump_views.proofs.MapLaws.{valid_map, map_sets}
use Rattle.dump_views.proofs.map_laws.requests_of_maps_set.Goals as goal

pub returns : goal.returns
returns c = record { valid = valid_map; set = map_sets }
