use Rattle.std.proofs.Common.{refl, sym, ap, ◌∙◌}
use Rattle.spiffe_doc.specs.Bundle.{is_among}
use Rattle.spiffe_doc.proofs.entry_set.is_among.Goals as goal

pub returns-then-eq : goal.returns-then-eq
returns-then-eq c =
    sym (c.loop-other.invariant
    ∙ ap (λ others. is_among others c.args.entry.now) c.in-Some.ensures.steps
    ∙ rw (sym c.eq.ensures ∙ c.if-eq.true) refl)
