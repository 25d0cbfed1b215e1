use Rattle.spiffe_doc.proofs.DocumentLaws.{document-place, entry-place}
use Rattle.spiffe_doc.proofs.laws.places_are_within_the_document.Goals as goal

pub returns-clause-documents : goal.returns-clause-documents
returns-clause-documents c = document-place

pub returns-clause-entries : goal.returns-clause-entries
returns-clause-entries c = entry-place
