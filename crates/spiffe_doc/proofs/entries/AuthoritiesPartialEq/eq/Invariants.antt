use Rattle.std.proofs.Common.{◌≡◌}
use Rattle.std.specs.Cmp.Lexicographic.{pointwise}
use Rattle.spiffe_doc.specs.Equal.{authority_eq}
use Rattle.spiffe_doc.proofs.entries.AuthoritiesPartialEq.eq.Given as goal

-- those that came are equal
abbrev pub invariant-loop-entry : goal.invariant-loop-entry
invariant-loop-entry l = pointwise authority_eq l.self l.other ≡ pointwise authority_eq l.entry-iterator l.others
