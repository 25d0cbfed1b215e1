use Rattle.refresh.specs.Private.Listing.{AreDomainsOf}
use Rattle.refresh.proofs.ListLines.{left_in, SoFar}
use Rattle.refresh.proofs.list.read_list.Given as goal

abbrev pub invariant-loop-line : goal.invariant-loop-line
invariant-loop-line l =
    (goal.iterator-loop-line).can_next l.line-iterator × (goal.iterator-loop-line).is_finite l.line-iterator
    × SoFar l.list (left_in l.line-iterator) l.number l.relationships.items × AreDomainsOf l.relationships.items l.domains
