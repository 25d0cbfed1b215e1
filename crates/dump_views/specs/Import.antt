-- What a bundle map says, or its first fault. Members are those of the JSON text, in its order, a repeated one included.
use Rattle.std.specs.Prelude.{◌≡◌, ℕ, List, [], ◌∷◌, ◌++◌, length, codes, bytes_eq, Bool, true, false, if◌then◌else◌, Option, Some, None, option_map, option_and_then, Result, Ok, Err}
use Rattle.std.specs.Str.{is_utf8}
use Rattle.json.specs.Json.{Json, null, boolean, number, string, array, object, Members, no_members, member, document}
use Rattle.json.specs.Tree.{json_tokens}
use Rattle.json.specs.Print.{print}
use Rattle.spiffe_doc.specs.declared.error.DocError.{DocError}
use Rattle.spiffe_doc.specs.Name.{IsName, trust_domain}
use Rattle.spiffe_doc.specs.Authority.{BundleValue}
use Rattle.spiffe_doc.specs.Text.{text_of}
use Rattle.spiffe_doc.specs.Document as bundles
use Rattle.map_core.specs.Name.{Name}
use Rattle.frame_front.specs.Dump.{Domains}
use Rattle.dump_views.specs.Choice.{is_named}
use Rattle.dump_views.specs.declared.error.MapError.{MapError}
use Rattle.dump_views.specs.declared.error.MapError.TheVariants.{NotMap, BadMember, Memory}
use Rattle.dump_views.specs.declared.error.MemberFault.{MemberFault}
use Rattle.dump_views.specs.declared.error.MemberFault.TheVariants.{BadName, Twice, BadBundle}

-- ---- the members of `trust_domains`

-- a name, and the value that stands under it
abbrev pub Member : Type 0
Member = List ℕ × Json

abbrev pub member_list : Members → List Member
member_list no_members = []
member_list (member name value more) = (name, value) ∷ member_list more

abbrev pub as_object : Json → Option Members
as_object null = None
as_object (boolean b) = None
as_object (number text) = None
as_object (string text) = None
as_object (array items) = None
as_object (object members) = Some members

-- the values under this name
abbrev pub values_named : List ℕ → Members → List Json
values_named name no_members = []
values_named name (member other value more) = if bytes_eq other name then value ∷ values_named name more else values_named name more

abbrev pub only_one : {X : Type 0} → List X → Option X
only_one [] = None
only_one (x ∷ []) = Some x
only_one (x ∷ y ∷ more) = None

-- the JSON text, which is UTF-8 and nests at most 128 deep
abbrev pub json_of : List ℕ → Option Json
json_of file = if is_utf8 file then document file else None

-- the members of the only member `trust_domains` of an object
abbrev pub domains_in : Json → Option Members
domains_in tree =
    option_and_then as_object
    (option_and_then (λ members. only_one (values_named (codes "trust_domains") members)) (as_object tree))

-- what a bundle map lists
abbrev pub listed : List ℕ → Option (List Member)
listed file = option_map member_list (option_and_then domains_in (json_of file))

-- ---- what they say

-- the bundle that a value is: the one of the document that is the value's JSON, with no space
abbrev pub bundle_in : Json → Result BundleValue DocError
bundle_in value = bundles.document (print (json_tokens value))

-- the member's name is that of the domain, and its value is the domain's bundle
abbrev pub IsMemberOf : Name × BundleValue → Member → Type 0
IsMemberOf item entry = (trust_domain entry.0 ≡ Ok item.0) × (bundle_in entry.1 ≡ Ok item.1)

abbrev pub AreMembersOf : Domains → List Member → Type 0
AreMembersOf [] [] = Unit {0}
AreMembersOf (item ∷ items) (entry ∷ entries) = IsMemberOf item entry × AreMembersOf items entries
AreMembersOf [] (entry ∷ entries) = ⊥
AreMembersOf (item ∷ items) [] = ⊥

abbrev pub member_names : List Member → List (List ℕ)
member_names [] = []
member_names (entry ∷ entries) = entry.0 ∷ member_names entries

-- each name stands once
abbrev pub StandOnce : List (List ℕ) → Type 0
StandOnce [] = Unit {0}
StandOnce (name ∷ names) = (is_named names name ≡ false) × StandOnce names

-- the members are these domains, in this order, each name once
pub record AreDomains (items : Domains) (entries : List Member) : Type 0 where
  pub once : StandOnce (member_names entries)
  pub are : AreMembersOf items entries

-- a bundle map of these domains
abbrev pub IsMap : List ℕ → Domains → Type 0
IsMap file items = (entries : List Member) × (listed file ≡ Some entries) × AreDomains items entries

-- why a member is not one more domain, if its name stood before or not
abbrev pub IsFaultOf : Bool → Member → MemberFault → Type 0
IsFaultOf again entry (BadName fault) = trust_domain entry.0 ≡ Err fault
IsFaultOf again entry Twice = IsName entry.0 × (again ≡ true)
IsFaultOf again entry (BadBundle fault) = IsName entry.0 × (again ≡ false) × (bundle_in entry.1 ≡ Err fault)

-- the members before this place are domains, and the one there is bad
pub record IsFirstBad (entries : List Member) (place : ℕ) (fault : MemberFault) : Type 0 where
  pub front : List Member
  pub entry : Member
  pub more : List Member
  pub items : Domains
  pub split : entries ≡ front ++ entry ∷ more
  pub placed : place ≡ length front
  pub good : AreDomains items front
  pub bad : IsFaultOf (is_named (member_names front) entry.0) entry fault

abbrev pub FaultOfMap : MapError → List ℕ → Type 0
FaultOfMap NotMap file = listed file ≡ None
FaultOfMap (BadMember place fault) file = (entries : List Member) × (listed file ≡ Some entries) × IsFirstBad entries place fault
FaultOfMap Memory file = Unit {0}

-- the request of version 1 that sets a domain: S, the name, and the canonical text
abbrev pub set_request : Name × BundleValue → List ℕ
set_request item = 83 ∷ length item.0 ∷ item.0 ++ text_of item.1
