-- Entries that give the authorities of a bundle, for a private contract.
use Rattle.std.specs.Prelude.{◌≡◌, List, length, None}
use Rattle.serde_json.specs.Data.{Data}
use Rattle.spiffe_doc.specs.declared.authority.Authority.{Authority}
use Rattle.spiffe_doc.specs.Document.{authorities_before, distinct, least_fault}

-- the entries have no fault, and these are the authorities that they give, each once
pub record AreEntries (entries : List Data) (authorities : List Authority) : Type 0 where
  pub faultless : least_fault entries (length entries) ≡ None
  pub once : authorities ≡ distinct (authorities_before entries (length entries))
