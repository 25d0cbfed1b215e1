-- Where a name stands among names in order.
use Rattle.std.specs.Prelude.{◌≡◌, ◌≢◌, ◌⊎◌, ℕ, List, [], ◌∷◌, ◌++◌, length}
use Rattle.std.specs.declared.cmp.Ordering.TheVariants.{Less, Equal, Greater}
use Rattle.shared_map.specs.Name.{Name, name_cmp}

-- what stands at a place of a list, with what is before it and what is after it
pub record Around {A : Type 0} (xs : List A) (place : ℕ) : Type 0 where
  pub front : List A
  pub item : A
  pub back : List A
  pub is : xs ≡ front ++ item ∷ back
  pub at : length front ≡ place

-- the first name of these
abbrev pub IsHead : {X : Type 0} → Name → List (Name × X) → Type 0
IsHead name [] = ⊥
IsHead name (x ∷ xs) = x.0 ≡ name

-- a list is cut in two, neither of which is empty: the second begins with this name
pub record IsSplit {X : Type 0} (whole front : List (Name × X)) (name : Name) (back : List (Name × X)) : Type 0 where
  pub is : whole ≡ front ++ back
  pub front_some : front ≢ []
  pub head : IsHead name back

-- the name is before the first of these, if there is one
abbrev pub IsBefore : {X : Type 0} → Name → List (Name × X) → Type 0
IsBefore q [] = Unit {0}
IsBefore q (x ∷ xs) = name_cmp q x.0 ≡ Less

-- the name is after the last of these, if there is one
abbrev pub IsAfter : {X : Type 0} → Name → List (Name × X) → Type 0
IsAfter {X} q xs = (xs ≡ []) ⊎ ((front : List (Name × X)) × (last : Name × X) × (xs ≡ front ++ last ∷ []) × (name_cmp q last.0 ≡ Greater))

-- the name at a place is q
pub record IsTaken {X : Type 0} (q : Name) (xs : List (Name × X)) (place : ℕ) : Type 0 where
  pub around : Around xs place
  pub same : name_cmp q around.item.0 ≡ Equal

-- q is after the names before a place, and before the others
pub record IsFree {X : Type 0} (q : Name) (xs : List (Name × X)) (place : ℕ) : Type 0 where
  pub front : List (Name × X)
  pub back : List (Name × X)
  pub is : xs ≡ front ++ back
  pub at : length front ≡ place
  pub after : IsAfter q front
  pub before : IsBefore q back

-- the place is the last one whose name is not after q, or the first one
abbrev pub IsReached : {X : Type 0} → Name → List (Name × X) → ℕ → Type 0
IsReached {X} q xs place = (a : Around xs place) × ((a.front ≡ []) ⊎ (name_cmp q a.item.0 ≢ Less)) × IsBefore q a.back
