use Rattle.std.proofs.Common.{map}
use Rattle.spiffe_doc.specs.Private.Borrowed.{tree_data}
use Rattle.spiffe_doc.specs.Private.WholeSet.{IsWhole}
use Rattle.spiffe_doc.specs.Private.Fronts.{listed}
use Rattle.spiffe_doc.proofs.EntryLists.{IsReadTo}
use Rattle.spiffe_doc.proofs.document.front_of.Given as goal

abbrev pub invariant-loop-place : goal.invariant-loop-place
invariant-loop-place g l = record {
  read : IsReadTo (map tree_data l.entries.items) l.place (listed l.set.front);
  whole : IsWhole l.set;
}
