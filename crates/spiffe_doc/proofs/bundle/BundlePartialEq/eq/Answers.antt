use Rattle.std.proofs.Common.{ap, ap₂, bytes_eq, ◌∙◌}
use Rattle.spiffe_doc.specs.Equal.{bundle_eq}
use Rattle.spiffe_doc.proofs.RoundTrip.{same_bundle_text}
use Rattle.spiffe_doc.proofs.bundle.BundlePartialEq.eq.Goals as goal

pub returns : goal.returns
returns c =
    let ours = c.as_slice.ensures.value ∙ ap (λ parts. parts.text.items) c.deref-ours.ensures ∙ c.self.invariant.written in
    let theirs = c.as_slice-2.ensures.value ∙ ap (λ parts. parts.text.items) c.deref-theirs.ensures ∙ c.other.invariant.written in
    c.eq.ensures ∙ ap₂ bytes_eq ours theirs ∙ same_bundle_text _ _ c.self.invariant.valid c.other.invariant.valid ∙ ap₂ bundle_eq c.self.view_is c.other.view_is
