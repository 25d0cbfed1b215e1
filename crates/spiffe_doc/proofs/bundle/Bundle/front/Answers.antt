use Rattle.std.proofs.Common.{◌≡◌, take, sym, ap, ap₂, ◌∙◌}
use Rattle.spiffe_doc.specs.Private.Places.{authorities_in}
use Rattle.spiffe_doc.proofs.PlaceLemmas.{kept_listed, kept_front}
use Rattle.spiffe_doc.proofs.bundle.Bundle.front.Goals as goal

text_is : (c : goal.In_ok-to_vec-2) → c.in_ok-to_vec.field-0.items ≡ take c.deref-published.result.now.numbers.front_len c.deref-published.result.now.text.items
text_is c = c.in_ok-to_vec.ensures.items_if_clones_equal (λ x y same. same) ∙ ap₂ take c.front_len.ensures c.as_slice-text.ensures.value

places_are : (c : goal.In_ok-to_vec-2) → c.in_ok-to_vec-2.field-0.items ≡ c.deref-published.result.now.places.items
places_are c = c.in_ok-to_vec-2.ensures.items_if_clones_equal (λ x y same. same) ∙ c.as_slice.ensures.value

pub returns-clause-whole : goal.returns-clause-whole
returns-clause-whole c =
    let kept = c.self.invariant in
    rw (text_is c, places_are c, c.deref-published.ensures) (kept_front _ _ _ kept.placed kept.front)

pub returns-clause-value : goal.returns-clause-value
returns-clause-value c =
    let kept = c.self.invariant in
    ap₂ authorities_in (text_is c) (places_are c)
    ∙ ap (λ parts. authorities_in (take parts.numbers.front_len parts.text.items) parts.places.items) c.deref-published.ensures
    ∙ sym (kept_listed _ _ _ kept.placed)
    ∙ ap (λ bundle. bundle.authorities) c.self.view_is
