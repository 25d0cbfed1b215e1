-- The numbers of refusals, by which replies and fault lines name them.
use Rattle.std.specs.Prelude.{ℕ}
use Rattle.spiffe_doc.specs.declared.name.NameError.{NameError}
use Rattle.spiffe_doc.specs.declared.name.NameError.TheVariants as name
use Rattle.spiffe_doc.specs.declared.id.IdError.{IdError}
use Rattle.spiffe_doc.specs.declared.id.IdError.TheVariants as id
use Rattle.spiffe_doc.specs.declared.error.DocError.{DocError}
use Rattle.spiffe_doc.specs.declared.error.DocError.TheVariants as doc

abbrev pub name_number : NameError → ℕ
name_number name.Empty = 1
name_number name.TooLong = 2
name_number (name.BadChar at) = 3
name_number name.Memory = 22

abbrev pub id_number : IdError → ℕ
id_number id.Empty = 1
id_number id.TooLong = 2
id_number (id.BadChar at) = 3
id_number id.NotSpiffe = 4
id_number (id.BadPath segment) = 5
id_number id.Memory = 22

abbrev pub doc_number : DocError → ℕ
doc_number doc.TooLong = 10
doc_number doc.NotJson = 11
doc_number doc.NotObject = 12
doc_number doc.NoKeys = 13
doc_number doc.BadSequence = 14
doc_number doc.BadHint = 15
doc_number (doc.BadEntry place) = 16
doc_number (doc.BadKey place) = 17
doc_number (doc.BadX5c place) = 18
doc_number (doc.BadKid place) = 19
doc_number (doc.KidTwice place) = 20
doc_number doc.TooMany = 21
doc_number doc.Memory = 22
