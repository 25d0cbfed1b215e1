use Rattle.std.proofs.Common.{◌≡◌, drop}
use Rattle.dump_views.specs.Changes.{held_under}
use Rattle.dump_views.proofs.pem.bundle_of.Given as goal

abbrev pub invariant-loop-domain : goal.invariant-loop-domain
invariant-loop-domain l = held_under (drop l.domain-index l.domains) l.name ≡ held_under l.fn.domains l.fn.name
