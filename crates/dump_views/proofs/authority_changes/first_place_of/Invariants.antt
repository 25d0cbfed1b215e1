use Rattle.std.proofs.Common.{◌≡◌, ◌+◌, length}
use Rattle.spiffe_doc.specs.Bundle.{is_among}
use Rattle.dump_views.proofs.authority_changes.first_place_of.Given as goal

-- none of those that came is it, and they are so many
abbrev pub invariant-loop-other : goal.invariant-loop-other
invariant-loop-other l = record {
  among : is_among l.these l.authority ≡ is_among l.other-iterator l.authority;
  count : l.place + length l.other-iterator ≡ length l.these;
}
