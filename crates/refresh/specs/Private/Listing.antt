-- Relationships that are listed one after the other.
use Rattle.std.specs.Prelude.{◌≡◌, ◌⊎◌, ◌++◌, ◌∷◌, [], ℕ, List, Option, None, Some, Ok, Err, false, option_copied}
use Rattle.std.specs.BTreeSet.{BTreeSet}
use Rattle.std.specs.Option.{option_to_list}
use Rattle.spiffe_doc.specs.Private.EntrySet.{has}
use Rattle.refresh.specs.Relationship.{RelationshipValue}
use Rattle.refresh.specs.declared.error.RelationError.{RelationError}
use Rattle.refresh.specs.declared.error.RelationError.TheVariants as relation
use Rattle.refresh.specs.declared.list_line.Words.{Words}
use Rattle.refresh.specs.declared.list.ListError.{ListError}
use Rattle.refresh.specs.declared.list.ListError.TheVariants.{BadRelationship, Memory}
use Rattle.refresh.specs.List.{Listed, fault_at, has_domain, listed_behind}

-- the error of the line of this number, if this is why it lists no relationship
abbrev pub refusal : ℕ → RelationError → ListError
refusal number relation.Memory = Memory
refusal number why = BadRelationship why number

-- the set has the trust domains of these relationships, and no others
abbrev pub AreDomainsOf : List RelationshipValue → BTreeSet (List ℕ) → Type 0
AreDomainsOf relationships domains = (name : List ℕ) → has domains name ≡ has_domain relationships name

-- the words of a line that is to list a relationship
abbrev pub words_in : Words → List (List ℕ)
words_in words = words.domain.now ∷ words.url.now ∷ words.profile.now ∷ option_to_list (option_copied words.endpoint_id)

-- and of any line
abbrev pub words_read : Option Words → List (List ℕ)
words_read None = []
words_read (Some words) = words_in words

-- the error of the line of this number, which lists this; or memory ran out
abbrev pub IsLineFault : ℕ → Listed → ListError → Type 0
IsLineFault number listed error = (error ≡ Memory) ⊎ ((why : Option RelationError) × (listed ≡ Err why) × (error ≡ fault_at number why))

-- a relationship of a new trust domain is added
abbrev pub Adds : RelationshipValue → List RelationshipValue → List RelationshipValue → Type 0
Adds relationship earlier later = (has_domain earlier relationship.domain ≡ false) × (later ≡ earlier ++ relationship ∷ [])

-- what a line lists is added
abbrev pub Follows : List RelationshipValue → List ℕ → List RelationshipValue → Type 0
Follows earlier line later =
    (found : Option RelationshipValue) × (listed_behind earlier line ≡ Ok found) × (later ≡ earlier ++ option_to_list found)
