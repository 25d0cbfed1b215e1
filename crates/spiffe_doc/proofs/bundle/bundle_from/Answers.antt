use Rattle.std.proofs.Common.{◌≡◌, ◌≤◌, length, refl, ap, ◌∙◌, rules, arith}
use Rattle.spiffe_doc.specs.Text.{text_of}
use Rattle.spiffe_doc.specs.Private.Places.{authorities_in}
use Rattle.spiffe_doc.specs.Private.Fronts.{listed}
use Rattle.spiffe_doc.proofs.KeptLemmas.{bundle_of, IsContinued, continued_listed, continued_text, continued_kept}
use Rattle.spiffe_doc.proofs.bundle.bundle_from.Given as given
use Rattle.spiffe_doc.proofs.bundle.bundle_from.Goals as goal

pub returns-then-len-gt-MAX_TEXT : goal.returns-then-len-gt-MAX_TEXT
returns-then-len-gt-MAX_TEXT g c =
    let front = c.args.front.text.items in
    let is : IsContinued front c.push_rest.new.text.items c.args.front.places.items c.args.sequence c.args.refresh_hint = record { begins = c.requires.whole; valid = c.requires.valid; is_text = c.in_ok-push_rest.ensures } in
    omega (arith, ap length (continued_text _ _ _ _ _ is), c.len.ensures, c.if-len-gt-MAX_TEXT.true)

-- the text and the places as they are kept
kept : (g : given.Over) (c : goal.In_ok-published g) → IsContinued c.args.front.text.items c.in_ok-to_vec.field-0.items c.args.front.places.items c.args.sequence c.args.refresh_hint
kept g c = record {
  begins = c.requires.whole;
  valid = c.requires.valid;
  is_text = c.in_ok-to_vec.ensures.items_if_clones_equal (λ x y same. same) ∙ c.as_slice.ensures.value ∙ c.in_ok-push_rest.ensures;
}

pub invariant_of-result : goal.invariant_of-result
invariant_of-result g c =
    let is = kept g c in
    let places = c.in_ok-to_vec-2.ensures.items_if_clones_equal (λ x y same. same) ∙ c.as_slice-2.ensures.value in
    let long : length c.in_ok-to_vec.field-0.items ≤ 1048576 = omega (arith, ap length (is.is_text), ap length c.in_ok-push_rest.ensures, c.len.ensures, c.if-len-gt-MAX_TEXT.false) in
    rw (c.in_ok-published.ensures.ok, c.new.ensures, places) (continued_kept c.args.front.text.items c.in_ok-to_vec.field-0.items c.args.front.places.items c.len-front_len.result c.args.sequence c.args.refresh_hint is (omega (arith, c.len-front_len.ensures)) (search rules) (search rules) long)

pub returns : goal.returns
returns g c =
    let is : IsContinued c.args.front.text.items c.in_ok-to_vec.field-0.items c.args.front.places.items c.args.sequence c.args.refresh_hint = record {
      begins = c.requires.whole;
      valid = c.requires.valid;
      is_text = c.in_ok-to_vec.ensures.items_if_clones_equal (λ x y same. same) ∙ c.as_slice.ensures.value ∙ c.in_ok-push_rest.ensures;
    } in
    let places = c.in_ok-to_vec-2.ensures.items_if_clones_equal (λ x y same. same) ∙ c.as_slice-2.ensures.value in
    let same : authorities_in c.in_ok-to_vec.field-0.items c.in_ok-to_vec-2.field-0.items ≡ listed c.args.front = ap (authorities_in c.in_ok-to_vec.field-0.items) places ∙ continued_listed _ _ _ _ _ is in
    let short : length (text_of (bundle_of c.args.sequence c.args.refresh_hint (listed c.args.front))) ≤ 1048576 =
    omega (arith, ap length (continued_text _ _ _ _ _ is), ap length is.is_text, ap length c.in_ok-push_rest.ensures, c.len.ensures, c.if-len-gt-MAX_TEXT.false) in
    rw (c.in_ok-published.ensures.ok, c.new.ensures, same) (refl, short)
