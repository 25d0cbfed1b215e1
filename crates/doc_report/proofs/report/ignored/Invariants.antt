use Rattle.std.proofs.Common.{◌≡◌, map}
use Rattle.serde_json.specs.View.{view}
use Rattle.doc_report.specs.Report.{ignored_before}
use Rattle.doc_report.proofs.report.ignored.Given as goal

abbrev pub invariant-loop-place : goal.invariant-loop-place
invariant-loop-place l = l.found.items ≡ ignored_before (map view l.entries) l.place
