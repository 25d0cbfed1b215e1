use Rattle.std.proofs.Common.{◌≡◌}
use Rattle.spiffe_doc.specs.Bundle.{is_kid_taken}
use Rattle.spiffe_doc.proofs.append.is_kid_taken.Given as goal

-- none of those that came has its key id
abbrev pub invariant-loop-other : goal.invariant-loop-other
invariant-loop-other l = is_kid_taken l.kept l.authority ≡ is_kid_taken l.other-iterator l.authority
