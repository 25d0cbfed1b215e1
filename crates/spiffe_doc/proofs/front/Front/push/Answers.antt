use Rattle.std.proofs.Common.{◌≡◌, ◌++◌, ◌∷◌, [], ◌-◌, ◌==◌, length, cond, ap, ◌∙◌, arith, length-append}
use Rattle.spiffe_doc.specs.declared.place.Place.{Place}
use Rattle.spiffe_doc.specs.Private.Places.{authorities_in}
use Rattle.spiffe_doc.proofs.EntryTexts.{IsEntry-of, authority_in-is}
use Rattle.spiffe_doc.proofs.PlaceLemmas.{comma_behind, IsPushed, listed_more, front_more}
use Rattle.spiffe_doc.proofs.front.Front.push.Given as given
use Rattle.spiffe_doc.proofs.front.Front.push.Goals as goal

abbrev place_of : (g : given.Over) → goal.In_ok-push g → Place
place_of g c = record { start = c.len-end.result - length c.text-text.result.now; end = c.len-end.result; is_x509 = c.is_x509.result }

pushed : (g : given.Over) (c : goal.In_ok-push g) → IsPushed c.args.self.now.text.items c.args.self.now.places.items c.text-text.result.now c.push_entry.new.text.items (place_of g c)
pushed g c =
    let text = c.args.self.now.text.items in
    let entry = c.text-text.result.now in
    let comma = comma_behind (length c.args.self.now.places.items) in
    let len : c.args.self.now.places.len ≡ length c.args.self.now.places.items = omega arith in
    let is_new : c.push_entry.new.text.items ≡ text ++ (comma ++ entry) = c.in_ok-push_entry.ensures ∙ ap (λ b. text ++ (cond b [] (44 ∷ []) ++ entry)) (c.is_empty.ensures ∙ ap (λ n. n == 0) len) in
    record {
      before = c.requires.whole;
      is_entry = IsEntry-of entry c.is_x509.result c.args.entry.now c.text-text.ensures.valid c.text-text.ensures.value c.is_x509.ensures;
      is_new = is_new;
      start = omega (arith, c.len-end.ensures, ap length is_new, length-append text (comma ++ entry), length-append comma entry);
      end = omega (arith, c.len-end.ensures);
    }

pub returns-clause-whole : goal.returns-clause-whole
returns-clause-whole g c = rw c.in_ok-push.ensures.items (front_more _ _ _ _ _ (pushed g c))

pub returns-clause-value : goal.returns-clause-value
returns-clause-value g c =
    let before = authorities_in c.args.self.now.text.items c.args.self.now.places.items in
    rw c.in_ok-push.ensures.items (listed_more _ _ _ _ _ (pushed g c) ∙ ap (λ a. before ++ a ∷ []) (authority_in-is c.text-text.result.now c.args.entry.now c.text-text.ensures.valid c.text-text.ensures.value))
