use Rattle.std.proofs.Common.{refl, sym, ap, ◌∙◌}
use Rattle.spiffe_doc.specs.Bundle.{is_among}
use Rattle.dump_views.proofs.authority_changes.first_place_of.Goals as goal

pub returns-then-eq-clause-among : goal.returns-then-eq-clause-among
returns-then-eq-clause-among c =
    sym (c.loop-other.invariant.among
    ∙ ap (λ others. is_among others c.args.authority.now) c.in-Some.ensures.steps
    ∙ rw (sym c.eq.ensures ∙ c.if-eq.true) refl)
