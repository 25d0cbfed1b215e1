use Rattle.std.proofs.Common.{sym, ◌∙◌}
use Rattle.serde_json.specs.View.{view}
use Rattle.doc_report.proofs.Told.{bad_key-short}
use Rattle.doc_report.proofs.Entries.{document-entries, entries_in-tree}
use Rattle.doc_report.proofs.report.report_on.Goals as goal

pub returns-in_err-tree-clause-memory : goal.returns-in_err-tree-clause-memory
returns-in_err-tree-clause-memory c = λ memory. (document-entries _ _ c.in-Ok.ensures.value).short

pub returns-in_err-ignored-clause-memory : goal.returns-in_err-ignored-clause-memory
returns-in_err-ignored-clause-memory c = λ memory. (document-entries _ _ c.in-Ok.ensures.value).short

pub figures-requires-clause-entries : goal.figures-requires-clause-entries
figures-requires-clause-entries c =
    let same = entries_in-tree c.args.document.now (view c.in_ok-tree.tree) c.in_ok-tree.ensures ∙ sym c.entries-entries.ensures in
    rw (← same) (document-entries _ _ c.in-Ok.ensures.value).entries

pub returns-in_err-member_at-in-Err-BadKey-clause-memory : goal.returns-in_err-member_at-in-Err-BadKey-clause-memory
returns-in_err-member_at-in-Err-BadKey-clause-memory c = λ memory. bad_key-short c.args.document.now c.in-Err-BadKey.place (rw c.in-Err-BadKey.field-0-is at c.in-Err-BadKey.ensures.value)
