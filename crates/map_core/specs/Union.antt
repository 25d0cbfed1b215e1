-- Maps put together.
use Rattle.std.specs.Prelude.{List, fold}
use Rattle.std.specs.FinMap as finite
use Rattle.map_core.specs.PlainMap.{PlainMap, union}

-- the maps together: under each name, what the last map that has the name holds
abbrev pub put_together : List PlainMap → PlainMap
put_together maps = fold union finite.empty maps
