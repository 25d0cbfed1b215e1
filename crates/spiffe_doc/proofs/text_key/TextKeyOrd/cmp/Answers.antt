use Rattle.std.proofs.Common.{nat_cmp, ◌∙◌}
use Rattle.std.specs.Cmp.Lexicographic.{slice_cmp}
use Rattle.spiffe_doc.proofs.NameOrder.{texts_by_prefix}
use Rattle.spiffe_doc.proofs.text_key.TextKeyOrd.cmp.Goals as goal

pub returns-in_default : goal.returns-in_default
returns-in_default c =
    let decides = texts_by_prefix _ _ c.self.inside.prefix c.other.inside.prefix (c.self.invariant.0, c.self.invariant.1) (c.other.invariant.0, c.other.invariant.1) (λ tied. c.in_default.not-Equal (c.cmp.ensures ∙ tied)) in
    c.cmp.ensures ∙ decides ∙ (λ i. slice_cmp nat_cmp (c.self.view_is i) (c.other.view_is i))
