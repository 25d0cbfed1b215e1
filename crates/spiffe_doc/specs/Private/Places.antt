-- The entries of a canonical text, by where they stand in it, for private contracts.
use Rattle.std.specs.Prelude.{◌≡◌, ◌≤◌, ℕ, List, map, length, take, drop}
use Rattle.std.specs.List.{AllByRecursion}
use Rattle.spiffe_doc.specs.declared.place.Place.{Place}
use Rattle.spiffe_doc.specs.declared.authority.Authority.{Authority}
use Rattle.spiffe_doc.specs.Private.Entries.{authority_in, IsEntry}
use Rattle.spiffe_doc.specs.Private.Writing.{front_text}

-- what stands at a place
abbrev pub piece : List ℕ → Place → List ℕ
piece text place = drop place.start (take place.end text)

-- the authorities that the entries at these places give
abbrev pub authorities_in : List ℕ → List Place → List Authority
authorities_in text places = map (λ place. authority_in (piece text place)) places

-- an entry stands there
pub record IsEntryAt (text : List ℕ) (place : Place) : Type 0 where
  pub ordered : place.start ≤ place.end
  pub inside : place.end ≤ length text
  pub entry : IsEntry (piece text place) place.is_x509

-- a document's text up to the last of the entries at these places
pub record IsFront (text : List ℕ) (places : List Place) : Type 0 where
  pub placed : AllByRecursion (IsEntryAt text) places
  pub written : text ≡ front_text (authorities_in text places)
