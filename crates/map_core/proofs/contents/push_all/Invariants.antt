use Rattle.std.proofs.Common.{◌≡◌, ◌++◌}
use Rattle.map_core.proofs.contents.push_all.Given as goal

-- the entries so far, and those that are still to come
abbrev pub invariant-loop-domain : goal.invariant-loop-domain
invariant-loop-domain l = l.out.items ++ l.domain-iterator ≡ l.fn.out.items ++ l.initial.domain-iterator
