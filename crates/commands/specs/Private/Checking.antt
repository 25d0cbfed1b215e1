-- The private functions of the command `check`.
use Rattle.std.specs.Prelude.{◌≡◌, ◌⊎◌, ℕ, List, [], ◌∷◌, ◌==◌, length, take, not, true, false, ◌||◌, Option, Result, Ok, Err, IfOk}
use Rattle.std.specs.List.{list_any}
use Rattle.std.specs.Io.KnownBytes.{Appends}
use Rattle.wire.specs.Output.{WritesFront}
use Rattle.wire.specs.declared.error.FrontError.TheVariants.{Memory, WriteFault}
use Rattle.wire.specs.Encoding.{Gives}
use Rattle.doc_report.specs.declared.fault.DocFault.{DocFault}
use Rattle.doc_report.specs.declared.report.Report.{Report}
use Rattle.commands.specs.declared.fault.Fault.{Fault}
use Rattle.commands.specs.declared.fault.Fault.TheVariants.{Front}
use Rattle.commands.specs.declared.check.Findings.{Findings}
use Rattle.commands.specs.Check.{Document, lines_of, lines_of_all, gives_no_bundle, gives_part, names_of, AreGiven, JudgesFiles, JudgesInput, WritesLines, status_of}

abbrev pub joined : Findings → Findings → Findings
joined a b = record { no_bundle = a.no_bundle || b.no_bundle; ignored = a.ignored || b.ignored }

-- what is found of a document by its report
abbrev pub given_by : Result Report DocFault → Findings
given_by (Ok report) = record { no_bundle = false; ignored = not (length report.ignored.items == 0) }
given_by (Err fault) = record { no_bundle = true; ignored = false }

abbrev pub findings_of : List Document → Findings
findings_of documents = record { no_bundle = list_any gives_no_bundle documents; ignored = list_any gives_part documents }

-- what they come to
abbrev pub status_by : Findings → ℕ
status_by findings = status_of findings.no_bundle findings.ignored

-- how it ended
abbrev pub ended_by : Result Findings Fault → Result (Unit {0}) Fault
ended_by (Ok findings) = Ok tt
ended_by (Err fault) = Err fault

-- one document: its lines are written; or a front of them, if the writer failed; or nothing, if memory ran out
abbrev pub ChecksOne : Result Findings Fault → Document → Option (List ℕ) → Option (List ℕ) → Type 0
ChecksOne (Ok findings) document held_old held_new = Appends held_old held_new (lines_of document) × (findings ≡ findings_of (document ∷ []))
ChecksOne (Err fault) document held_old held_new =
    ((fault ≡ Front WriteFault) × WritesFront held_old held_new (lines_of document)) ⊎ ((fault ≡ Front Memory) × (held_new ≡ held_old))

-- these documents are judged, and this is found
pub record ChecksInput (result : Result Findings Fault) (left_old left_new held_old held_new : Option (List ℕ)) : Type 0 where
  pub judged : List Document
  pub judges : JudgesInput (ended_by result) judged left_old left_new
  pub writes : WritesLines (ended_by result) held_old held_new (lines_of_all judged)
  pub found : IfOk result (λ findings. findings ≡ findings_of judged)

pub record ChecksFiles (gives : Gives) (files : List (List ℕ)) (result : Result Findings Fault) (held_old held_new : Option (List ℕ)) : Type 0 where
  pub judged : List Document
  pub judges : JudgesFiles gives files (ended_by result) judged
  pub writes : WritesLines (ended_by result) held_old held_new (lines_of_all judged)
  pub found : IfOk result (λ findings. findings ≡ findings_of judged)

-- the texts of so many files are judged
pub record SoFar (gives : Gives) (files : List (List ℕ)) (place : ℕ) (findings : Findings) (held_old held_new : Option (List ℕ)) : Type 0 where
  pub judged : List Document
  pub names : names_of judged ≡ take place files
  pub given : AreGiven gives judged
  pub appends : Appends held_old held_new (lines_of_all judged)
  pub found : findings ≡ findings_of judged
