use Rattle.std.proofs.Common.{sym, ap, ◌∙◌}
use Rattle.serde_json.specs.Find.{as_array}
use Rattle.spiffe_doc.specs.Private.Borrowed.{tree_data}
use Rattle.spiffe_doc.proofs.BorrowedLemmas.{tree_data-Array}
use Rattle.spiffe_doc.proofs.tree.array.Goals as goal

pub returns-in-Array : goal.returns-in-Array
returns-in-Array g c = sym (ap as_array (ap tree_data c.in-Array.is ∙ tree_data-Array c.in-Array.items))
