-- What is held under a name.
use Rattle.std.specs.Prelude.{◌≡◌, Bool, true, false, Option, Some, None}
use Rattle.std.specs.FinMap as finite
use Rattle.map_core.specs.declared.held.Holding.{Holding}
use Rattle.map_core.specs.declared.held.Holding.TheVariants.{Published, Mark}
use Rattle.map_core.specs.Name.{Name}
use Rattle.map_core.specs.PlainMap.{PlainMap}

-- whether a bundle is held
abbrev pub is_bundle : Option Holding → Bool
is_bundle (Some (Published b)) = true
is_bundle held = false

-- whether a mark is held
abbrev pub is_mark : Option Holding → Bool
is_mark (Some (Mark s)) = true
is_mark held = false

-- no name holds a bundle
abbrev pub HasNoBundle : PlainMap → Type 0
HasNoBundle m = (d : Name) → is_bundle (finite.get m d) ≡ false

-- no name holds a mark
abbrev pub HasNoMark : PlainMap → Type 0
HasNoMark m = (d : Name) → is_mark (finite.get m d) ≡ false

-- the bundle that is held, if one is
abbrev pub only_bundle : Option Holding → Option Holding
only_bundle (Some (Published b)) = Some (Published b)
only_bundle held = None

-- two maps with the same bundles, whatever their marks
abbrev pub HaveSameBundles : PlainMap → PlainMap → Type 0
HaveSameBundles m p = (d : Name) → only_bundle (finite.get m d) ≡ only_bundle (finite.get p d)
