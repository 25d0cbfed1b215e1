-- The numbers of errors, under which fault lines show them.
use Rattle.std.specs.Prelude.{ℕ}
use Rattle.dump_views.specs.declared.error.MapError.{MapError}
use Rattle.dump_views.specs.declared.error.MapError.TheVariants.{NotMap, BadMember, Memory}

abbrev pub map_number : MapError → ℕ
map_number NotMap = 64
map_number (BadMember place fault) = 65
map_number Memory = 22
