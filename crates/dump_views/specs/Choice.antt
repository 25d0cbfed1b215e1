-- Some of the domains of a dump, by their names.
use Rattle.std.specs.Prelude.{◌≡◌, ℕ, ◌<◌, List, length, map, filter, slice_index_or, bytes_eq, Bool, true, false, []}
use Rattle.std.specs.List.{list_any, All}
use Rattle.frame_front.specs.Dump.{Domains}
use Rattle.dump_views.specs.declared.choice.ChoiceError.{ChoiceError}
use Rattle.dump_views.specs.declared.choice.ChoiceError.TheVariants.{NoDomain, Memory}

-- whether the name is one of these
abbrev pub is_named : List (List ℕ) → List ℕ → Bool
is_named names name = list_any (λ other. bytes_eq other name) names

-- the names of these domains
abbrev pub names_of : Domains → List (List ℕ)
names_of items = map (λ item. item.0) items

-- the domains that have one of the names
abbrev pub chosen : List (List ℕ) → Domains → Domains
chosen names items = filter (λ item. is_named names item.0) items

-- each of the names is that of a domain
abbrev pub AreThere : List (List ℕ) → Domains → Type 0
AreThere names items = All (λ name. is_named (names_of items) name ≡ true) names

-- the first of the names, by its place from 0, that no domain has
pub record IsFirstMissing (names : List (List ℕ)) (items : Domains) (place : ℕ) : Type 0 where
  pub inside : place < length names
  pub missing : is_named (names_of items) (slice_index_or names place []) ≡ false
  pub before : (k : ℕ) → k < place → is_named (names_of items) (slice_index_or names k []) ≡ true

abbrev pub FaultOfChoice : ChoiceError → List (List ℕ) → Domains → Type 0
FaultOfChoice (NoDomain place) names items = IsFirstMissing names items place
FaultOfChoice Memory names items = Unit {0}
