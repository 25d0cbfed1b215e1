use Rattle.spiffe_doc.proofs.ReadLemmas.{json_tree-some}
use Rattle.doc_report.proofs.report.tree_of.Goals as goal

pub returns-in-Ok : goal.returns-in-Ok
returns-in-Ok c = json_tree-some c.args.document.now _ c.in-Ok.ensures.ok.0 c.in-Ok.ensures.ok.1
