use Rattle.std.proofs.Common.{◌≡◌}
use Rattle.spiffe_doc.specs.Private.Prefix.{prefix_number}
use Rattle.spiffe_doc.proofs.name.prefix_of.Given as goal

abbrev pub invariant-loop-place : goal.invariant-loop-place
invariant-loop-place l = l.number ≡ prefix_number l.place l.bytes
