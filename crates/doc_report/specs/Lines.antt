-- What a person is told of a document: words for a terminal, a line for each thing.
use Rattle.std.specs.Prelude.{ℕ, ◌+◌, ◌==◌, ◌&&◌, List, [], ◌++◌, length, flat_map, codes, decimal, if◌then◌else◌, Option, Some, None, Result, Ok, Err}
use Rattle.doc_report.specs.declared.fault.DocFault.{DocFault}
use Rattle.doc_report.specs.declared.ignored.Held.{Held}
use Rattle.doc_report.specs.declared.ignored.Held.TheVariants.{Missing, Other, Text}
use Rattle.doc_report.specs.declared.ignored.Ignored.{Ignored}
use Rattle.doc_report.specs.declared.ignored.Reason.{Reason}
use Rattle.doc_report.specs.declared.ignored.Reason.TheVariants.{OtherType, OtherUse, OtherCurve}
use Rattle.doc_report.specs.Fault.{entry_words, fault_words}
use Rattle.doc_report.specs.Quoted.{quoted}
use Rattle.doc_report.specs.declared.report.Report.{Report}
use Rattle.doc_report.specs.Report.{ReportValue, value_of}

-- what each line begins with
abbrev pub name_words : List ℕ → List ℕ
name_words name = name ++ codes ": "

-- a line about the document of this name
abbrev pub line : List ℕ → List ℕ → List ℕ
line name words = name_words name ++ (words ++ codes "\n")

-- how many there are, and what they are called if there is one, or another number
unfoldable pub counted : ℕ → List ℕ → List ℕ → List ℕ
counted number one many = decimal number ++ (if number == 1 then one else many)

-- ---- the bundle

-- how many authorities are kept, and of which kind
abbrev pub kind_words : ℕ → List ℕ → List ℕ
kind_words number name = decimal number ++ name

abbrev pub kinds_words : ReportValue → List ℕ
kinds_words report = kind_words report.x509 (codes " X.509, ") ++ kind_words report.jwt (codes " JWT)")

abbrev pub kept_words : ReportValue → List ℕ
kept_words report = counted (report.x509 + report.jwt) (codes " authority (") (codes " authorities (") ++ kinds_words report

-- a number of this name, or that it is missing
abbrev pub named_words : List ℕ → Option ℕ → List ℕ
named_words name None = codes ", no " ++ name
named_words name (Some number) = codes ", " ++ (name ++ (codes " " ++ decimal number))

abbrev pub numbers_words : ReportValue → List ℕ
numbers_words report = named_words (codes "sequence") report.sequence ++ named_words (codes "refresh hint") report.refresh_hint

unfoldable pub bundle_words : ReportValue → List ℕ
bundle_words report = codes "bundle of " ++ (kept_words report ++ numbers_words report)

-- a bundle of no authorities says so
abbrev pub nothing_words : ℕ → List ℕ
nothing_words entries = codes "no authorities: nothing would be kept of " ++ counted entries (codes " entry") (codes " entries")

unfoldable pub empty_lines : List ℕ → ReportValue → List ℕ
empty_lines name report = if (report.x509 == 0) && (report.jwt == 0) then line name (nothing_words (length report.ignored)) else []

-- an authority that is given again is kept once
unfoldable pub repeated_lines : List ℕ → ReportValue → List ℕ
repeated_lines name report =
    if report.repeated == 0 then []
    else line name (counted report.repeated (codes " entry repeats an earlier one") (codes " entries repeat earlier ones") ++ codes ", kept once")

-- ---- the entries that are ignored

-- a text under a name, which is not a known one
abbrev pub its_words : List ℕ → List ℕ → List ℕ
its_words name verb = codes "its " ++ (name ++ verb)

abbrev pub not_words : List ℕ → List ℕ → List ℕ
not_words known text = quoted text ++ (codes ", not " ++ known)

abbrev pub other_words : List ℕ → List ℕ → List ℕ → List ℕ
other_words name known text = its_words name (codes " is ") ++ not_words known text

-- what is held under a name, where these texts are known
abbrev pub held_words : List ℕ → List ℕ → Held → List ℕ
held_words name known Missing = codes "it has no " ++ name
held_words name known Other = its_words name (codes " is not a text")
held_words name known (Text text) = other_words name known text

unfoldable pub reason_words : Reason → List ℕ
reason_words (OtherType held) = held_words (codes "kty") (codes "EC or RSA") held
reason_words (OtherUse held) = held_words (codes "use") (codes "x509-svid or jwt-svid") held
reason_words (OtherCurve text) = other_words (codes "crv") (codes "P-256, P-384 or P-521") text

abbrev pub ignored_words : Ignored → List ℕ
ignored_words ignored = entry_words ignored.place ++ (codes "is ignored: " ++ reason_words ignored.reason)

abbrev pub ignored_lines : List ℕ → List Ignored → List ℕ
ignored_lines name ignored = flat_map (λ entry. line name (ignored_words entry)) ignored

-- ---- all lines

abbrev pub count_lines : List ℕ → ReportValue → List ℕ
count_lines name report = empty_lines name report ++ repeated_lines name report

unfoldable pub told_lines : List ℕ → ReportValue → List ℕ
told_lines name report = line name (bundle_words report) ++ (count_lines name report ++ ignored_lines name report.ignored)

unfoldable pub fault_line : List ℕ → DocFault → List ℕ
fault_line name fault = line name (fault_words fault)

-- what a person is told of a report, or of the fault that took its place
abbrev pub outcome_lines : List ℕ → Result Report DocFault → List ℕ
outcome_lines name (Ok report) = told_lines name (value_of report)
outcome_lines name (Err fault) = fault_line name fault
