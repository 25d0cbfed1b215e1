use Rattle.std.proofs.Common.{sym, ◌∙◌}
use Rattle.json.specs.Value.{value_view}
use Rattle.spiffe_doc.proofs.BorrowedLemmas.{found_data, get-data_of}
use Rattle.spiffe_doc.proofs.tree.member.Goals as goal

pub returns : goal.returns
returns g c = found_data c.get.result _ c.get.ensures ∙ sym (get-data_of c.args.name.now (value_view c.args.tree.now))
