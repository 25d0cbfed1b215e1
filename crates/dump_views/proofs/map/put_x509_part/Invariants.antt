use Rattle.std.proofs.Common.{◌≡◌, ◌++◌}
use Rattle.std.specs.Prelude.{not}
use Rattle.std.specs.List.{filter}
use Rattle.spiffe_doc.specs.Bundle.{is_x509}
use Rattle.spiffe_doc.specs.Private.Writing.{entry_texts, front_text}
use Rattle.dump_views.proofs.map.put_x509_part.Given as goal

-- with the X.509 entries that are still to come it is the text of all
abbrev pub invariant-loop-entry : goal.invariant-loop-entry
invariant-loop-entry l = l.text.items ++ entry_texts (not l.is_first) (filter is_x509 l.entry-iterator) ≡ l.fn.text.items ++ front_text (filter is_x509 l.bundle.authorities)
