use Rattle.std.proofs.Common.{◌≡◌}
use Rattle.spiffe_doc.specs.Bundle.{is_among}
use Rattle.spiffe_doc.proofs.append.is_among.Given as goal

-- none of those that came is it
abbrev pub invariant-loop-other : goal.invariant-loop-other
invariant-loop-other l = is_among l.kept l.authority ≡ is_among l.other-iterator l.authority
