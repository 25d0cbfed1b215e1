-- What the command `race` does to its streams.
use Rattle.std.specs.Prelude.{◌≡◌, ℕ, ◌==◌, if◌then◌else◌, List, Option, Some, None, Result}
use Rattle.commands.specs.declared.fault.Fault.{Fault}
use Rattle.commands.specs.Streams.{Streams, WritesText, Ends}
use Rattle.race_demo.specs.declared.report.Findings.{Findings}
use Rattle.race_demo.specs.Report.{IsHonest, report}

-- 0 if no fetch-all showed a map that never was, 1 if one did
abbrev pub race_status : Findings → ℕ
race_status found = if found.all.mixed == 0 then 0 else 1

abbrev pub IsReport : Findings → List ℕ → Type 0
IsReport found text = IsHonest found.each × IsHonest found.all × (text ≡ report found)

-- the report of what was found
abbrev pub ReportOf : Option Findings → List ℕ → Type 0
ReportOf (Some found) text = IsReport found text
ReportOf None text = (found : Findings) × IsReport found text

-- Nothing is read. The report is written, or there was no race.
pub record RaceRun (status : ℕ) (old new : Streams) : Type 0 where
  pub reads : new.input ≡ old.input
  pub ended : Result Findings Fault
  pub raced : WritesText ReportOf (λ fault. Unit {0}) ended old.output new.output
  pub ends : Ends race_status ended status old.error new.error
