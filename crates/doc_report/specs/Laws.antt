-- What follows from the definitions.
use Rattle.std.specs.Prelude.{◌≡◌, ◌≤◌, ◌↔◌, ℕ, List, length, IsSome, None, Ok, Err}
use Rattle.std.specs.List.{AllByRecursion}
use Rattle.serde_json.specs.Data.{Data}
use Rattle.spiffe_doc.specs.declared.error.DocError.TheVariants.{BadKey}
use Rattle.spiffe_doc.specs.Entry.{IsIgnored}
use Rattle.spiffe_doc.specs.Judgement.{judge}
use Rattle.spiffe_doc.specs.Document.{document}
use Rattle.doc_report.specs.declared.fault.DocFault.{DocFault}
use Rattle.doc_report.specs.Ignored.{reason}
use Rattle.doc_report.specs.KeyMember.{faulty_member, LacksMember}
use Rattle.doc_report.specs.Quoted.{quoted}
use Rattle.doc_report.specs.Report.{ReportValue, report_of, entries_in, fault_by, entries_told}

-- an entry is judged to give nothing if and only if there is a reason why it is ignored
abbrev pub IgnoredForReason : Type 0
IgnoredForReason = (place : ℕ) (entry : Data) → (judge place entry ≡ Ok None) ↔ IsSome (reason entry)

abbrev pub ReasonIsIgnored : Type 0
ReasonIsIgnored = (entry : Data) → IsSome (reason entry) ↔ IsIgnored entry

-- a document has no report if and only if it is not a bundle, with the same error, to which the member of a key is added
abbrev pub FaultsStay : Type 0
FaultsStay = (bytes : List ℕ) (fault : DocFault) →
    (report_of bytes ≡ Err fault) ↔ ((document bytes ≡ Err fault.error) × (fault ≡ fault_by (entries_in bytes) fault.error))

-- the member that is told of an entry with a malformed key is the first that is missing or malformed
abbrev pub FirstFaultyMember : Type 0
FirstFaultyMember = (place at : ℕ) (entry : Data) → judge place entry ≡ Err (BadKey at) → LacksMember entry (faulty_member entry)

-- each entry is told once: it gives an authority that is kept, or repeats one, or is ignored
abbrev pub TellsEachEntry : Type 0
TellsEachEntry = (bytes : List ℕ) (report : ReportValue) → report_of bytes ≡ Ok report → entries_told report ≡ length (entries_in bytes)

-- a printable byte of ASCII
abbrev pub IsPrintable : ℕ → Type 0
IsPrintable byte = (32 ≤ byte) × (byte ≤ 126)

-- what is shown of a text is printable, whatever text it is
abbrev pub ShownIsPrintable : Type 0
ShownIsPrintable = (text : List ℕ) → AllByRecursion IsPrintable (quoted text)
