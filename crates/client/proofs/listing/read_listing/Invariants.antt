use Rattle.std.proofs.Common.{◌≤◌, ◌-◌}
use Rattle.wire.specs.Output.{end_of}
use Rattle.client.proofs.ListingLemmas.{Listed}
use Rattle.client.proofs.listing.read_listing.Given as goal

abbrev pub invariant-loop-place : goal.invariant-loop-place
invariant-loop-place g l =
    Listed (end_of g.R.Read.remaining l.fn.reader) (end_of g.R.Read.remaining l.reader) l.items.items l.last l.place × (l.place ≤ l.count)

abbrev pub decreases-loop-place : goal.decreases-loop-place
decreases-loop-place g l = l.count - l.place
