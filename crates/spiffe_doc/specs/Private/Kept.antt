-- What a bundle in memory keeps, for private contracts.
use Rattle.std.specs.Prelude.{◌≡◌, ◌≤◌, ℕ, List, length, take}
use Rattle.std.specs.List.{AllByRecursion}
use Rattle.spiffe_doc.specs.declared.place.Place.{Place}
use Rattle.spiffe_doc.specs.Authority.{BundleValue}
use Rattle.spiffe_doc.specs.Bundle.{IsBundle}
use Rattle.spiffe_doc.specs.Text.{text_of}
use Rattle.spiffe_doc.specs.Private.Places.{IsEntryAt}
use Rattle.spiffe_doc.specs.Private.Writing.{front_text}

-- its canonical text, how many bytes of it stand up to the last entry, and where its entries stand in these
pub record IsKept (text : List ℕ) (front_len : ℕ) (places : List Place) (bundle : BundleValue) : Type 0 where
  pub valid : IsBundle bundle
  pub written : text ≡ text_of bundle
  pub inside : front_len ≤ length text
  pub front : take front_len text ≡ front_text bundle.authorities
  pub placed : AllByRecursion (IsEntryAt (take front_len text)) places
