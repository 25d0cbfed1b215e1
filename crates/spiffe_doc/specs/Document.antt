-- What bundle a document is, or why it is not one (RFC 7517 section 5; SPIFFE Trust Domain and Bundle, section 4).
use Rattle.std.specs.Prelude.{ℕ, zero, suc, ◌&&◌, List, [], ◌∷◌, ◌++◌, length, slice_index_or, filter, codes, not, nat_lt, nat_le, if◌then◌else◌, Option, Some, None, option_map, option_and_then, Result, Ok, Err}
use Rattle.std.specs.Option.{ok_or, option_or}
use Rattle.std.specs.Str.{is_utf8}
use Rattle.serde_json.specs.Data.{Data, null, number, Items, no_items, item}
use Rattle.serde_json.specs.Find.{get, as_array, as_object, as_u64}
use Rattle.serde_json.specs.Read.{read}
use Rattle.spiffe_doc.specs.declared.authority.Authority.{Authority}
use Rattle.spiffe_doc.specs.declared.error.DocError.{DocError}
use Rattle.spiffe_doc.specs.declared.error.DocError.TheVariants.{TooLong, NotJson, NotObject, NoKeys, BadSequence, BadHint, BadEntry, BadKey, BadX5c, BadKid, KidTwice, TooMany}
use Rattle.spiffe_doc.specs.Answer.{unless, ◌>>=◌}
use Rattle.spiffe_doc.specs.Authority.{BundleValue}
use Rattle.spiffe_doc.specs.Equal.{authority_eq}
use Rattle.spiffe_doc.specs.Text.{text_of}
use Rattle.spiffe_doc.specs.Judgement.{judge}
use Rattle.spiffe_doc.specs.Bundle.{is_among, is_kid_taken}

-- ---- the entries of a document

abbrev pub elements : Items → List Data
elements no_items = []
elements (item entry more) = entry ∷ elements more

-- what becomes of the entry at a place
abbrev pub verdict : List Data → ℕ → Result (Option Authority) DocError
verdict entries place = judge place (slice_index_or entries place null)

abbrev pub authorities_by : Result (Option Authority) DocError → List Authority
authorities_by (Ok (Some authority)) = authority ∷ []
authorities_by other = []

-- what the entries before a place give
unfoldable pub authorities_before : List Data → ℕ → List Authority
authorities_before entries zero = []
authorities_before entries (suc place) = authorities_before entries place ++ authorities_by (verdict entries place)

-- each authority once, at its first place
unfoldable pub distinct : List Authority → List Authority
distinct [] = []
distinct (first ∷ more) = first ∷ filter (λ other. not (authority_eq first other)) (distinct more)

-- why an entry of this outcome is refused after those that gave these authorities
abbrev pub fault_after : ℕ → List Authority → Result (Option Authority) DocError → Option DocError
fault_after place before (Err e) = Some e
fault_after place before (Ok None) = None
fault_after place before (Ok (Some authority)) =
    if is_kid_taken before authority then Some (KidTwice place)
    else if not (is_among before authority) && nat_le 1024 (length (distinct before)) then Some TooMany
    else None

abbrev pub fault_at : List Data → ℕ → Option DocError
fault_at entries place = fault_after place (authorities_before entries place) (verdict entries place)

-- the fault at the least place below the bound that has one
unfoldable pub least_fault : List Data → ℕ → Option DocError
least_fault entries zero = None
least_fault entries (suc place) = option_or (least_fault entries place) (fault_at entries place)

-- the authorities that the entries give, each once, or the fault at the least place
unfoldable pub authorities_of : List Data → Result (List Authority) DocError
authorities_of entries = unless (least_fault entries (length entries)) (distinct (authorities_before entries (length entries)))

-- ---- the document

-- the number of a member, none if it is absent or null; nothing if it is not such a number
abbrev pub whole_number : Option Data → Option (Option ℕ)
whole_number None = Some None
whole_number (Some null) = Some None
whole_number (Some (number n)) = option_map Some (as_u64 n)
whole_number (Some other) = None

abbrev pub within : ℕ → List ℕ → Result (List ℕ) DocError
within limit bytes = if nat_lt limit (length bytes) then Err TooLong else Ok bytes

-- the tree of a JSON text, which is UTF-8 and nests at most 127 deep
abbrev pub json_tree : List ℕ → Option Data
json_tree text = if is_utf8 text then read text else None

unfoldable pub bundle_of : Data → Result BundleValue DocError
bundle_of tree = do
  members ← ok_or (as_object tree) NotObject
  keys ← ok_or (option_and_then as_array (get (codes "keys") tree)) NoKeys
  sequence ← ok_or (whole_number (get (codes "spiffe_sequence") tree)) BadSequence
  hint ← ok_or (whole_number (get (codes "spiffe_refresh_hint") tree)) BadHint
  authorities ← authorities_of (elements keys)
  Ok (record { sequence = sequence; refresh_hint = hint; authorities = authorities })

-- the bundle that a document is, or the first reason why it is not one
unfoldable pub document : List ℕ → Result BundleValue DocError
document bytes = do
  input ← within 1048576 bytes
  tree ← ok_or (json_tree input) NotJson
  bundle ← bundle_of tree
  text ← within 1048576 (text_of bundle)
  Ok bundle

-- one entry by itself: its authority, none if it is ignored, or its first fault
unfoldable pub entry : List ℕ → Result (Option Authority) DocError
entry bytes = do
  input ← within 1048576 bytes
  tree ← ok_or (json_tree input) NotJson
  judge 0 tree

-- ---- the place in `keys` that a refusal names

abbrev pub place_of : DocError → Option ℕ
place_of (BadEntry place) = Some place
place_of (BadKey place) = Some place
place_of (BadX5c place) = Some place
place_of (BadKid place) = Some place
place_of (KidTwice place) = Some place
place_of error = None
