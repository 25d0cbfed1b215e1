-- Entries inserted into a map in turn.
use Rattle.std.specs.Prelude.{Bool, false, List, [], ◌∷◌, fold, bytes_eq}
use Rattle.std.specs.FinMap as finite
use Rattle.map_core.specs.declared.held.Holding.{Holding}
use Rattle.map_core.specs.Name.{Name}
use Rattle.map_core.specs.PlainMap.{PlainMap}

-- the map with these entries inserted in turn
abbrev pub with_entries : PlainMap → List (Name × Holding) → PlainMap
with_entries m es = fold (λ n e. finite.insert n e.0 e.1) m es

-- the map of these entries, inserted in turn: of two under one name the later one stays
abbrev pub put_in_turn : List (Name × Holding) → PlainMap
put_in_turn es = with_entries finite.empty es

-- whether the first of the entries is under the name
abbrev pub begins_with : Name → List (Name × Holding) → Bool
begins_with name [] = false
begins_with name (e ∷ es) = bytes_eq e.0 name
