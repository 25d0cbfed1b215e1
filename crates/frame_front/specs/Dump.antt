-- Dumps: the frames of a reply to a fetch-all, and the requests that store again what they hold.
use Rattle.std.specs.Prelude.{◌≡◌, ℕ, ◌≤◌, List, ◌∷◌, ◌++◌, length, ◌==◌, ◌&&◌, map, if◌then◌else◌, Option, Some, None, []}
use Rattle.std.specs.Int.{w64, from_be_bytes}
use Rattle.std.specs.List.{AllByRecursion}
use Rattle.std.specs.FinMap as finite
use Rattle.spiffe_doc.specs.Authority.{BundleValue}
use Rattle.spiffe_doc.specs.Name.{IsName}
use Rattle.spiffe_doc.specs.Bundle.{IsBundle}
use Rattle.spiffe_doc.specs.Text.{text_of}
use Rattle.map_core.specs.declared.held.Holding.{Holding}
use Rattle.map_core.specs.declared.held.Holding.TheVariants.{Published}
use Rattle.map_core.specs.Name.{Name}
use Rattle.map_core.specs.Laws.{Ascends}
use Rattle.map_core.specs.declared.reply.Reply.TheVariants.{All}
use Rattle.map_core.specs.PlainMap.{PlainMap, bundles}
use Rattle.frame_front.specs.declared.dump.DumpError.{DumpError}
use Rattle.frame_front.specs.declared.dump.DumpError.TheVariants.{BadDump, Memory}
use Rattle.wire.specs.Frame.{HasFrames}
use Rattle.wire.specs.Items.{item_of}
use Rattle.wire.specs.Answers.{reply_frames}

-- trust domains with their bundles
abbrev pub Domains : Type 0
Domains = List (Name × BundleValue)

-- the code a, and a count in 8 bytes
abbrev pub count_of : List ℕ → Option ℕ
count_of [] = None
count_of (code ∷ digits) = if (code == 97) && (length digits == 8) then Some (from_be_bytes w64 digits) else None

-- each payload is one of these domains
abbrev pub ReadsItems : List (List ℕ) → Domains → Type 0
ReadsItems [] [] = Unit {0}
ReadsItems (payload ∷ payloads) (item ∷ items) = (item_of payload ≡ Some item) × ReadsItems payloads items
ReadsItems [] (item ∷ items) = ⊥
ReadsItems (payload ∷ payloads) [] = ⊥

-- A dump of these domains: their number, and then a frame for each, in order of their names.
pub record IsDump (dump : List ℕ) (items : Domains) : Type 0 where
  pub head : List ℕ
  pub payloads : List (List ℕ)
  pub framed : HasFrames dump (head ∷ payloads) []
  pub counted : count_of head ≡ Some (length items)
  pub read : ReadsItems payloads items
  pub ascending : Ascends None items

-- frames with which a dump may begin: a number, and no more domains than that, in order
abbrev pub IsDumpFront : List (List ℕ) → Type 0
IsDumpFront [] = Unit {0}
IsDumpFront (head ∷ payloads) =
    (count : ℕ) × (items : Domains) × (count_of head ≡ Some count) × ReadsItems payloads items × Ascends None items × (length items ≤ count)

-- No dump, and this is the place of the first frame that is wrong, missing or too much.
pub record IsBadDump (dump : List ℕ) (place : ℕ) : Type 0 where
  pub front : List (List ℕ)
  pub others : List (List ℕ)
  pub rest : List ℕ
  pub framed : HasFrames dump (front ++ others) rest
  pub placed : place ≡ length front
  pub good : IsDumpFront front
  pub bad : (payload : List ℕ) (more : List (List ℕ)) → others ≡ payload ∷ more → ¬ (IsDumpFront (front ++ payload ∷ []))
  pub none : (items : Domains) → ¬ (IsDump dump items)

abbrev pub FaultOfDump : DumpError → List ℕ → Type 0
FaultOfDump (BadDump place) dump = IsBadDump dump place
FaultOfDump Memory dump = Unit {0}

-- all bundles are valid
abbrev pub HaveValidBundles : Domains → Type 0
HaveValidBundles items = AllByRecursion (λ item. IsBundle item.1) items

-- each name is a trust domain name, and each bundle is valid
abbrev pub AreValid : Domains → Type 0
AreValid items = AllByRecursion (λ item. IsName item.0 × IsBundle item.1) items

-- the dump of a map: the reply to a fetch-all, which has the names and the bundles and no tombstone
abbrev pub dump_of : PlainMap → List ℕ
dump_of m = reply_frames (All (bundles m))

-- the request that sets a domain if it is absent: C, the name, the expectation, and the canonical text
abbrev pub request_for : Name × BundleValue → List ℕ
request_for item = 67 ∷ length item.0 ∷ item.0 ++ 0 ∷ text_of item.1

-- a request of version 2, and then one for each domain
abbrev pub requests_for : Domains → List (List ℕ)
requests_for items = (86 ∷ 2 ∷ []) ∷ map request_for items

-- a domain as the map holds it
abbrev pub held_of : Name × BundleValue → Name × Holding
held_of item = (item.0, Published item.1)

-- the map of these domains
abbrev pub map_of : Domains → PlainMap
map_of items = finite.from_entries (map held_of items)

-- the number of the error
abbrev pub dump_number : DumpError → ℕ
dump_number (BadDump place) = 63
dump_number Memory = 22
