-- SPIFFE IDs (SPIFFE-ID, section 2).
use Rattle.std.specs.Prelude.{◌≡◌, ℕ, ◌≤◌, ◌==◌, ◌||◌, ◌&&◌, List, [], ◌∷◌, ◌++◌, length, drop, codes, bytes_eq, nat_eq, Bool, true, not, nat_lt, if◌then◌else◌, Option, Some, option_map, Result}
use Rattle.std.specs.Option.{option_or}
use Rattle.std.specs.List.{list_all, AllByRecursion, slice_split, position_or_len, position_from, before_first, starts_with}
use Rattle.std.specs.Char.{is_ascii_alphanumeric}
use Rattle.spiffe_doc.specs.declared.name.NameError.{NameError}
use Rattle.spiffe_doc.specs.declared.name.NameError.TheVariants as name
use Rattle.spiffe_doc.specs.declared.id.IdError.{IdError}
use Rattle.spiffe_doc.specs.declared.id.IdError.TheVariants.{Empty, TooLong, BadChar, NotSpiffe, BadPath, Memory}
use Rattle.spiffe_doc.specs.Answer.{unless}
use Rattle.spiffe_doc.specs.Name.{IsName, name_fault}

-- `a-z`, `A-Z`, `0-9`, `.`, `-` and `_`
abbrev pub is_segment_byte : ℕ → Bool
is_segment_byte x = is_ascii_alphanumeric x || x == 46 || x == 45 || x == 95

-- a segment of a path: not empty, and neither `.` nor `..`
abbrev pub is_segment : List ℕ → Bool
is_segment segment =
    not (length segment == 0) && list_all is_segment_byte segment && not (bytes_eq segment (codes ".")) && not (bytes_eq segment (codes ".."))

-- the segments, a slash before each
abbrev pub path_text : List (List ℕ) → List ℕ
path_text [] = []
path_text (segment ∷ more) = 47 ∷ segment ++ path_text more

abbrev pub IsPath : List ℕ → Type 0
IsPath path = (segments : List (List ℕ)) × (path ≡ path_text segments) × AllByRecursion (λ segment. is_segment segment ≡ true) segments

-- a SPIFFE ID, as contracts see it
pub record IdValue : Type 0 where
  pub domain : List ℕ
  pub path : List ℕ

-- how it is spelled
abbrev pub id_text : IdValue → List ℕ
id_text id = codes "spiffe://" ++ id.domain ++ id.path

-- the text is the SPIFFE ID of this domain and this path
pub record IsId (text : List ℕ) (id : IdValue) : Type 0 where
  pub is_text : text ≡ id_text id
  pub short : length text ≤ 2048
  pub has_name : IsName id.domain
  pub has_path : IsPath id.path

-- ---- why a text is not a SPIFFE ID

abbrev pub is_slash : ℕ → Bool
is_slash byte = byte == 47

-- after the scheme: the domain, up to the next slash or the end, and the segments behind it
abbrev pub domain_of : List ℕ → List ℕ
domain_of rest = before_first is_slash rest

abbrev pub segments_of : List ℕ → List (List ℕ)
segments_of rest = drop 1 (slice_split is_slash rest)

-- the first that is not a segment, if the first of all is counted so
abbrev pub first_bad : ℕ → List (List ℕ) → Option ℕ
first_bad place segments = position_from (λ segment. not (is_segment segment)) place segments

abbrev pub id_error : NameError → IdError
id_error name.Empty = Empty
id_error name.TooLong = TooLong
id_error (name.BadChar at) = BadChar at
id_error name.Memory = Memory

-- the first fault of the domain, or else the first that is not a segment
unfoldable pub rest_fault : List ℕ → Option IdError
rest_fault rest =
    option_or (option_map id_error (name_fault (domain_of rest))) (option_map BadPath (first_bad 0 (segments_of rest)))

unfoldable pub id_fault : List ℕ → Option IdError
id_fault text =
    if nat_lt 2048 (length text) then Some TooLong
    else if not (starts_with nat_eq text (codes "spiffe://")) then Some NotSpiffe
    else rest_fault (drop 9 text)

abbrev pub id_of : List ℕ → IdValue
id_of rest = record { domain = domain_of rest; path = drop (position_or_len is_slash rest) rest }

-- the SPIFFE ID that a text is, or the first reason why it is not one
abbrev pub spiffe_id : List ℕ → Result IdValue IdError
spiffe_id text = unless (id_fault text) (id_of (drop 9 text))
