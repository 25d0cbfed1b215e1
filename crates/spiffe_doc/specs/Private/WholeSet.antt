-- What a set of entries keeps, for private contracts.
use Rattle.spiffe_doc.specs.declared.entry_set.EntrySet.{EntrySet}
use Rattle.spiffe_doc.specs.Bundle.{AreAuthorities}
use Rattle.spiffe_doc.specs.Private.Fronts.{listed, IsWholeFront}
use Rattle.spiffe_doc.specs.Private.EntrySet.{AreIndexed}

pub record IsWhole {A : Type 0} (set : EntrySet A) : Type 0 where
  pub valid : AreAuthorities (listed set.front)
  pub indexed : AreIndexed set.certificates set.kids (listed set.front)
  pub front : IsWholeFront set.front
