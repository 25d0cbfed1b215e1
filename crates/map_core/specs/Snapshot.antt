-- The pairs of a snapshot.
use Rattle.std.specs.Prelude.{List}
use Rattle.std.specs.Arc.{arc_value}
use Rattle.spiffe_doc.specs.Authority.{BundleValue}
use Rattle.map_core.specs.declared.reply.Pairs.{Pairs}
use Rattle.map_core.specs.declared.reply.Pairs.TheVariants.{Owned, Shared}
use Rattle.map_core.specs.Name.{Name}

-- the pairs, wherever they lie
abbrev pub pairs_of : Pairs → List (Name × BundleValue)
pairs_of (Owned pairs) = pairs.items
pairs_of (Shared pairs) = (arc_value pairs).items
