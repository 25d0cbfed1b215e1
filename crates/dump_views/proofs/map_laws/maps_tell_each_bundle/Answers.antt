use Rattle.dump_views.proofs.MapLaws.{tree_of_domains, bundles_of_domains}
use Rattle.dump_views.proofs.map_laws.maps_tell_each_bundle.Goals as goal

pub returns : goal.returns
returns c = record { tree = tree_of_domains; bundles = bundles_of_domains }
