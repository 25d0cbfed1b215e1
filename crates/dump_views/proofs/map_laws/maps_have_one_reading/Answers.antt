use Rattle.dump_views.proofs.MapLaws.{same_map, faultless_map}
use Rattle.dump_views.proofs.map_laws.maps_have_one_reading.Goals as goal

pub returns : goal.returns
returns c = record { domains = same_map; faultless = faultless_map }
