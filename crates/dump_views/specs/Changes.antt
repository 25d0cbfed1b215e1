-- What changed between two dumps.
use Rattle.std.specs.Prelude.{◌≡◌, List, [], ◌∷◌, bytes_eq, if◌then◌else◌, Option, Some, None}
use Rattle.spiffe_doc.specs.Authority.{BundleValue}
use Rattle.spiffe_doc.specs.Equal.{bundle_eq}
use Rattle.map_core.specs.Name.{Name}
use Rattle.frame_front.specs.Dump.{Domains}
use Rattle.map_core.specs.Laws.{IsAfter}

-- what changed under a name
pub data Change : Type 0 where
  Added : (bundle : BundleValue) → Change
  Removed : Change
  Changed : (old new : BundleValue) → Change

-- what stands beside the name, if anything
unfoldable pub held_under : {A : Type 0} → List (Name × A) → Name → Option A
held_under [] name = None
held_under (pair ∷ pairs) name = if bytes_eq pair.0 name then Some pair.1 else held_under pairs name

-- each name comes after the one before it, and the first after the last one given
abbrev pub InOrder : {A : Type 0} → Option Name → List (Name × A) → Type 0
InOrder last [] = Unit {0}
InOrder last (pair ∷ pairs) = IsAfter last pair.0 × InOrder (Some pair.0) pairs

-- what changed from what a name held to what it holds
abbrev pub change_between : Option BundleValue → Option BundleValue → Option Change
change_between None None = None
change_between None (Some new) = Some (Added new)
change_between (Some old) None = Some Removed
change_between (Some old) (Some new) = if bundle_eq old new then None else Some (Changed old new)

-- These are the changes from the old domains to the new ones: what changed under each name, in order of the names.
pub record AreChanges (old new : Domains) (changes : List (Name × Change)) : Type 0 where
  pub in_order : InOrder None changes
  pub exact : (name : Name) → held_under changes name ≡ change_between (held_under old name) (held_under new name)
