-- Lists of relationships: what the command `refresh` reads.
use Rattle.std.specs.Prelude.{◌≡◌, ◌≢◌, ◌+◌, ◌==◌, ◌++◌, ℕ, nat_lt, List, [], ◌∷◌, length, map, slice_index, bytes_eq, if◌then◌else◌, Bool, Option, Some, None, Result, Ok, Err}
use Rattle.std.specs.Char.{is_ascii_whitespace}
use Rattle.std.specs.List.{AllPairs, before_first, filter, flat_map, list_any, slice_split}
use Rattle.std.specs.Option.{option_to_list}
use Rattle.std.specs.Str.{is_utf8}
use Rattle.refresh.specs.Relationship.{RelationshipValue, relationship}
use Rattle.refresh.specs.declared.error.RelationError.{RelationError}
use Rattle.refresh.specs.declared.list.ListError.{ListError}
use Rattle.refresh.specs.declared.list.ListError.TheVariants.{BadLine, BadRelationship, Memory}

-- ---- a line

-- the lines of a list: its parts between line feeds
unfoldable pub lines_of : List ℕ → List (List ℕ)
lines_of list = slice_split (λ byte. byte == 10) list

abbrev pub has_bytes : List ℕ → Bool
has_bytes word = nat_lt 0 (length word)

-- it begins with `#`
abbrev pub begins_comment : List ℕ → Bool
begins_comment word = slice_index word 0 == 35

-- the words of a line: its parts between bytes of ASCII white space that are not empty, up to the first that begins a comment
unfoldable pub words_of : List ℕ → List (List ℕ)
words_of line = before_first begins_comment (filter has_bytes (slice_split is_ascii_whitespace line))

-- What a line lists: a relationship, or nothing. An error says why its words are not a relationship; or nothing, if the line is
-- bad: its words are too few or too many, or it is not UTF-8.
abbrev pub Listed : Type 0
Listed = Result (Option RelationshipValue) (Option RelationError)

abbrev pub listed_as : Result RelationshipValue RelationError → Listed
listed_as (Ok r) = Ok (Some r)
listed_as (Err why) = Err (Some why)

-- what words list: no word nothing, and three or four a relationship
abbrev pub listed_by : List (List ℕ) → Listed
listed_by [] = Ok None
listed_by (domain ∷ url ∷ profile ∷ []) = listed_as (relationship domain url profile None)
listed_by (domain ∷ url ∷ profile ∷ endpoint_id ∷ []) = listed_as (relationship domain url profile (Some endpoint_id))
listed_by words = Err None

unfoldable pub listed_in : List ℕ → Listed
listed_in line = if is_utf8 line then listed_by (words_of line) else Err None

-- ---- the list

-- one of them is of this trust domain
abbrev pub has_domain : List RelationshipValue → List ℕ → Bool
has_domain relationships name = list_any (λ r. bytes_eq r.domain name) relationships

-- a line whose relationship is of a trust domain that is there is bad, too
abbrev pub unless_there : List RelationshipValue → Listed → Listed
unless_there earlier (Ok (Some r)) = if has_domain earlier r.domain then Err None else Ok (Some r)
unless_there earlier listed = listed

-- what a line lists behind these relationships
abbrev pub listed_behind : List RelationshipValue → List ℕ → Listed
listed_behind earlier line = unless_there earlier (listed_in line)

-- Each line lists one of these relationships or nothing, they stand in the order of the lines, and no two are of one trust domain.
pub record AreListed (lines : List (List ℕ)) (relationships : List RelationshipValue) : Type 0 where
  pub found : List (Option RelationshipValue)
  pub each : map listed_in lines ≡ map Ok found
  pub all : relationships ≡ flat_map option_to_list found
  pub apart : AllPairs (λ r s. r.domain ≢ s.domain) relationships

-- ---- why it is refused

-- the error of the line of this number
abbrev pub fault_at : ℕ → Option RelationError → ListError
fault_at number None = BadLine number
fault_at number (Some why) = BadRelationship why number

-- This is the error of the first line that is bad, numbered from 1; the lines before it are listed.
pub record IsFirstBad (lines : List (List ℕ)) (error : ListError) : Type 0 where
  pub before : List (List ℕ)
  pub line : List ℕ
  pub after : List (List ℕ)
  pub split : lines ≡ before ++ line ∷ after
  pub relationships : List RelationshipValue
  pub listed : AreListed before relationships
  pub why : Option RelationError
  pub bad : listed_behind relationships line ≡ Err why
  pub told : error ≡ fault_at (length before + 1) why

-- why a list is refused; memory may have run out
abbrev pub IsListFault : ListError → List ℕ → Type 0
IsListFault Memory list = Unit {0}
IsListFault error list = IsFirstBad (lines_of list) error
