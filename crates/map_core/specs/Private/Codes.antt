-- The code of a plain map, by which a proof tells two of them apart.
use Rattle.std.specs.Coded.{Coded, coded_ℕ, coded_list}
use Rattle.std.specs.FinMap as finite
use Rattle.map_core.specs.contracts.held.Holding as held
use Rattle.map_core.specs.PlainMap.{PlainMap}

abbrev pub plain_map_code : Coded PlainMap
plain_map_code = finite.code (coded_list coded_ℕ) (held.the_row).coded
