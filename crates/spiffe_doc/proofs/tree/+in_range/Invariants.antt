use Rattle.std.proofs.Common.{◌≡◌, drop}
use Rattle.json.specs.Value.{items_view, members_view}
use Rattle.spiffe_doc.specs.Private.Borrowed.{items_in_range, members_in_range}
use Rattle.spiffe_doc.proofs.tree.+in_range.Given as goal

abbrev pub invariant-are_items_in_range-loop-item : goal.invariant-are_items_in_range-loop-item
invariant-are_items_in_range-loop-item g l =
    items_in_range (items_view l.items.items) ≡ items_in_range (items_view (drop l.item-index l.item-items))

abbrev pub invariant-are_members_in_range-loop-member : goal.invariant-are_members_in_range-loop-member
invariant-are_members_in_range-loop-member g l =
    members_in_range (members_view l.members.items) ≡ members_in_range (members_view (drop l.member-index l.member-items))
