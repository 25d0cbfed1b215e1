-- A document's text up to its last entry, for private contracts.
use Rattle.std.specs.Prelude.{List}
use Rattle.spiffe_doc.specs.declared.authority.Authority.{Authority}
use Rattle.spiffe_doc.specs.declared.front.Front.{Front}
use Rattle.spiffe_doc.specs.Private.Places.{authorities_in, IsFront}

-- the authorities of its entries
abbrev pub listed : {A : Type 0} → Front A → List Authority
listed front = authorities_in front.text.items front.places.items

-- its places are those of its entries
abbrev pub IsWholeFront : {A : Type 0} → Front A → Type 0
IsWholeFront front = IsFront front.text.items front.places.items
