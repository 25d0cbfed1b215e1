-- What the command `check` tells of documents.
use Rattle.std.specs.Prelude.{◌≡◌, ◌+◌, ◌==◌, ℕ, List, [], ◌∷◌, ◌++◌, length, map, flat_map, codes, Bool, true, false, not, Option, Some, None, Result, Ok, Err}
use Rattle.std.specs.List.{AllByRecursion, list_any}
use Rattle.std.specs.Io.KnownBytes.{Appends}
use Rattle.wire.specs.Output.{WritesFront}
use Rattle.wire.specs.declared.error.FrontError.TheVariants.{Memory, WriteFault}
use Rattle.wire.specs.Encoding.{Gives}
use Rattle.doc_report.specs.declared.fault.DocFault.{DocFault}
use Rattle.doc_report.specs.Report.{ReportValue, report_of}
use Rattle.doc_report.specs.Lines.{told_lines, fault_line}
use Rattle.commands.specs.declared.fault.Fault.{Fault}
use Rattle.commands.specs.declared.fault.Fault.TheVariants.{Front, UnreadText}
use Rattle.commands.specs.Input.{IsInput, InputFault, ReadsInput}
use Rattle.commands.specs.declared.input.Extent.TheVariants.{Limited}
use Rattle.commands.specs.Streams.{Source, Streams, EndsWith}

-- a document, and the name by which its lines speak of it
pub record Document : Type 0 where
  pub name : List ℕ
  pub text : List ℕ

-- ---- the lines of each document

-- what is told of a report, or of the fault that took its place
abbrev pub lines_by : List ℕ → Result ReportValue DocFault → List ℕ
lines_by name (Ok report) = told_lines name report
lines_by name (Err fault) = fault_line name fault

abbrev pub lines_of : Document → List ℕ
lines_of document = lines_by document.name (report_of document.text)

abbrev pub lines_of_all : List Document → List ℕ
lines_of_all documents = flat_map lines_of documents

-- ---- the status

abbrev pub is_fault : Result ReportValue DocFault → Bool
is_fault (Ok report) = false
is_fault (Err fault) = true

abbrev pub ignores : Result ReportValue DocFault → Bool
ignores (Ok report) = not (length report.ignored == 0)
ignores (Err fault) = false

-- the document is not a bundle
abbrev pub gives_no_bundle : Document → Bool
gives_no_bundle document = is_fault (report_of document.text)

-- the document is a bundle, and something of it is ignored
abbrev pub gives_part : Document → Bool
gives_part document = ignores (report_of document.text)

-- 1 if some document is not a bundle; else 3 if something is ignored; else 0
abbrev pub status_of : Bool → Bool → ℕ
status_of true ignored = 1
status_of false true = 3
status_of false false = 0

abbrev pub check_status : List Document → ℕ
check_status documents = status_of (list_any gives_no_bundle documents) (list_any gives_part documents)

-- ---- the documents that are judged

abbrev pub names_of : List Document → List (List ℕ)
names_of documents = map (λ document. document.name) documents

-- each text was given for its name
abbrev pub AreGiven : Gives → List Document → Type 0
AreGiven gives documents = AllByRecursion (λ document. gives document.name (Some document.text)) documents

-- why no more files than these are judged: the text of the next, whose number is from 1, cannot be read; or memory ran out, or
-- the writer failed
abbrev pub Stops : Gives → Fault → List Document → List (List ℕ) → Type 0
Stops gives (UnreadText number) judged (next ∷ rest) = (number ≡ length judged + 1) × gives next None
Stops gives (Front Memory) judged rest = Unit {0}
Stops gives (Front WriteFault) judged rest = Unit {0}
Stops gives fault judged rest = ⊥

-- the texts of all files are judged, in order; those of the first ones, if a fault ended it
abbrev pub JudgesFiles : Gives → List (List ℕ) → Result (Unit {0}) Fault → List Document → Type 0
JudgesFiles gives files (Ok done) judged = (names_of judged ≡ files) × AreGiven gives judged
JudgesFiles gives files (Err fault) judged =
    (rest : List (List ℕ)) × (files ≡ names_of judged ++ rest) × AreGiven gives judged × Stops gives fault judged rest

-- the whole input as a document
abbrev pub input_document : List ℕ → Document
input_document text = record { name = codes "-"; text = text }

abbrev pub JudgesInput : Result (Unit {0}) Fault → List Document → Option (List ℕ) → Option (List ℕ) → Type 0
JudgesInput (Ok done) judged left_old left_new =
    (text : List ℕ) × IsInput Limited text left_old left_new × (judged ≡ input_document text ∷ [])
JudgesInput (Err (Front WriteFault)) judged left_old left_new =
    (text : List ℕ) × IsInput Limited text left_old left_new × (judged ≡ input_document text ∷ [])
JudgesInput (Err fault) judged left_old left_new = InputFault Limited fault left_old left_new × (judged ≡ [])

-- the input is not read where files are named
abbrev pub Judges : Gives → List (List ℕ) → Result (Unit {0}) Fault → List Document → Source → Source → Type 0
Judges gives [] ended judged old new = JudgesInput ended judged old.bytes new.bytes × ReadsInput Limited ended old.reads new.reads
Judges gives (file ∷ files) ended judged old new = JudgesFiles gives (file ∷ files) ended judged × (new ≡ old)

-- ---- the whole command

-- all of the lines are written; if the writer failed, a front of them
abbrev pub WritesLines : Result (Unit {0}) Fault → Option (List ℕ) → Option (List ℕ) → List ℕ → Type 0
WritesLines (Err (Front WriteFault)) held_old held_new lines = WritesFront held_old held_new lines
WritesLines ended held_old held_new lines = Appends held_old held_new lines

-- Of documents that are not bundles nothing is told on standard error.
pub record Checks (gives : Gives) (files : List (List ℕ)) (status : ℕ) (old new : Streams) : Type 0 where
  pub judged : List Document
  pub ended : Result (Unit {0}) Fault
  pub ends : EndsWith (λ done. check_status judged) ended status old new
  pub judges : Judges gives files ended judged old.input new.input
  pub writes : WritesLines ended old.output.bytes new.output.bytes (lines_of_all judged)
