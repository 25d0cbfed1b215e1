-- Why a payload is refused, and the numbers that say so.
use Rattle.std.specs.Prelude.{ℕ, Option, Some, None}
use Rattle.spiffe_doc.specs.declared.name.NameError.{NameError}
use Rattle.spiffe_doc.specs.declared.name.NameError.TheVariants as name
use Rattle.spiffe_doc.specs.declared.error.DocError.{DocError}
use Rattle.spiffe_doc.specs.declared.error.DocError.TheVariants as doc
use Rattle.spiffe_doc.specs.Document.{place_of}
use Rattle.spiffe_doc.specs.Number.{name_number, doc_number}
use Rattle.wire.specs.declared.refusal.Refusal.{Refusal}
use Rattle.wire.specs.declared.refusal.Refusal.TheVariants.{BadRequest, BadName, BadDocument, PassedOver, Memory}

-- why a name is refused
abbrev pub name_refusal : NameError → Refusal
name_refusal name.Memory = Memory
name_refusal fault = BadName fault

-- why a document or an entry is refused
abbrev pub document_refusal : DocError → Refusal
document_refusal doc.Memory = Memory
document_refusal fault = BadDocument fault

abbrev pub refusal_number : Refusal → ℕ
refusal_number BadRequest = 51
refusal_number (BadName fault) = name_number fault
refusal_number (BadDocument fault) = doc_number fault
refusal_number PassedOver = 23
refusal_number Memory = 22

-- the place of a name's fault
abbrev pub name_place : NameError → Option ℕ
name_place (name.BadChar at) = Some at
name_place fault = None

-- the place that a refusal names, if it names one
abbrev pub refusal_place : Refusal → Option ℕ
refusal_place (BadName fault) = name_place fault
refusal_place (BadDocument fault) = place_of fault
refusal_place refusal = None
