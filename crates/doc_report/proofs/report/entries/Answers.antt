use Rattle.std.proofs.Common.{sym, ap, ◌∙◌, map}
use Rattle.serde_json.specs.View.{view}
use Rattle.doc_report.proofs.Entries.{array-entries}
use Rattle.doc_report.proofs.report.entries.Goals as goal

pub returns-in-Some : goal.returns-in-Some
returns-in-Some c = ap (map view) c.as_slice.ensures.value ∙ array-entries (view c.args.tree.now) c.in-Some.keys.now.items (sym c.in-Some.ensures)
