use Rattle.std.proofs.Common.{sym, ◌∙◌}
use Rattle.dump_views.proofs.Holdings.{held_here, held_later, held_nowhere}
use Rattle.dump_views.proofs.pem.bundle_of.Goals as goal

pub returns-then-eq : goal.returns-then-eq
returns-then-eq c =
    sym c.loop-domain.invariant ∙ held_here c.args.domains.now c.loop-domain.domain-index c.domain-item.result c.args.name.now c.loop-domain-test.true c.domain-item.is (sym c.if-eq.ensures)

pub loop-domain-preserved : goal.loop-domain-preserved
loop-domain-preserved c =
    sym (held_later c.args.domains.now c.loop-domain.domain-index c.domain-item.result c.args.name.now c.loop-domain-test.true c.domain-item.is (sym c.if-eq.ensures)) ∙ c.loop-domain.invariant

pub returns : goal.returns
returns c = sym c.loop-domain.invariant ∙ held_nowhere c.args.domains.now c.loop-domain.domain-index c.args.name.now c.loop-domain-test.false
