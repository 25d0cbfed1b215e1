-- Members as a tree over borrowed text has them, for private contracts.
use Rattle.std.specs.Prelude.{◌≡◌, ℕ, List, Option, Some, None, Err}
use Rattle.std.specs.Borrow.{Bor}
use Rattle.json.specs.Json.{Json}
use Rattle.json.specs.Value.{value_view}
use Rattle.json.specs.declared.value.Value.{Value}
use Rattle.spiffe_doc.specs.Name.{trust_domain}
use Rattle.dump_views.specs.Import.{Member, bundle_in, IsFirstBad}
use Rattle.dump_views.specs.declared.error.MapError.{MapError}
use Rattle.dump_views.specs.declared.error.MapError.TheVariants.{NotMap, BadMember, Memory}
use Rattle.dump_views.specs.declared.error.MemberFault.{MemberFault}
use Rattle.dump_views.specs.declared.error.MemberFault.TheVariants.{BadName, Twice, BadBundle}

abbrev pub member_of : {A : Type 0} → Bor (List ℕ) × Value A → Member
member_of entry = (entry.0.now, value_view entry.1)

-- the error of a fault of the member at this place, or of none, if memory ran out
abbrev pub map_error : ℕ → Option MemberFault → MapError
map_error place None = Memory
map_error place (Some fault) = BadMember place fault

-- why a name is not read: its fault, or none if memory ran out
abbrev pub NameFault : Option MemberFault → List ℕ → Type 0
NameFault None name = Unit {0}
NameFault (Some (BadName fault)) name = trust_domain name ≡ Err fault
NameFault (Some Twice) name = ⊥
NameFault (Some (BadBundle fault)) name = ⊥

-- why a value is not read: its fault, or none if memory ran out
abbrev pub BundleFault : Option MemberFault → Json → Type 0
BundleFault None value = Unit {0}
BundleFault (Some (BadName fault)) value = ⊥
BundleFault (Some Twice) value = ⊥
BundleFault (Some (BadBundle fault)) value = bundle_in value ≡ Err fault

-- out of memory, or such a fault of the member at this place
abbrev pub IsMapFault : ℕ → (MemberFault → Type 0) → MapError → Type 0
IsMapFault place Faults NotMap = ⊥
IsMapFault place Faults (BadMember at fault) = (at ≡ place) × Faults fault
IsMapFault place Faults Memory = Unit {0}

-- out of memory, or the first bad one of these members
abbrev pub FaultOfMembers : List Member → MapError → Type 0
FaultOfMembers entries NotMap = ⊥
FaultOfMembers entries (BadMember place fault) = IsFirstBad entries place fault
FaultOfMembers entries Memory = Unit {0}
