-- What the command `map` writes: the bundle map of a dump.
use Rattle.std.specs.Prelude.{◌≡◌, ℕ, List, [], ◌∷◌, ◌++◌, map, Option}
use Rattle.wire.specs.Counted.{next_count}
use Rattle.frame_front.specs.Dump.{Domains}
use Rattle.commands.specs.declared.fault.Fault.{Fault}
use Rattle.commands.specs.declared.fault.Fault.TheVariants.{NotInDump}
use Rattle.dump_views.specs.declared.profile.Profile.{Profile}
use Rattle.dump_views.specs.Map.{map_text, shown}
use Rattle.dump_views.specs.Choice.{chosen, AreThere, IsFirstMissing}
use Rattle.commands.specs.Reading.{IsRead, Unread}
use Rattle.commands.specs.declared.input.Extent.TheVariants.{Any}

-- the domains of these names; all of them, if no name is given
abbrev pub wanted : List (List ℕ) → Domains → Domains
wanted [] items = items
wanted (name ∷ names) items = chosen (name ∷ names) items

-- the bundle map of the wanted domains of the dump, and a line feed
abbrev pub MapOf : List (List ℕ) → Profile → List ℕ → Option (List ℕ) → Option (List ℕ) → Type 0
MapOf names profile text left_old left_new =
    (items : Domains) × IsRead Any items left_old left_new × AreThere names items × (text ≡ map_text (map (shown profile) (wanted names items)) ++ 10 ∷ [])

-- a name, from 1, that no domain of the dump has; or no dump is read
abbrev pub NoMap : List (List ℕ) → Fault → Option (List ℕ) → Option (List ℕ) → Type 0
NoMap names (NotInDump number) left_old left_new =
    (items : Domains) × (place : ℕ) × IsRead Any items left_old left_new × IsFirstMissing names items place × (number ≡ next_count place)
NoMap names fault left_old left_new = Unread Any fault left_old left_new
