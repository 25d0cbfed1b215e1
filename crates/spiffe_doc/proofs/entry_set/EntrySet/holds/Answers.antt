use Rattle.std.proofs.Common.{◌≡◌, ◌&&◌, None, Some, false, get_or, option_copied, refl, sym, ap, ◌∙◌}
use Rattle.base64.specs.Engines.{standard}
use Rattle.base64.specs.GeneralPurpose.{encode_of}
use Rattle.spiffe_doc.specs.declared.authority.Authority.TheVariants.{X509}
use Rattle.spiffe_doc.specs.Equal.{authority_eq}
use Rattle.spiffe_doc.specs.Bundle.{is_among, is_kid_taken}
use Rattle.spiffe_doc.specs.Private.EntrySet.{has, place_of_kid}
use Rattle.spiffe_doc.specs.Private.Given.{key_given, authority_given}
use Rattle.spiffe_doc.specs.Private.Fronts.{listed}
use Rattle.spiffe_doc.proofs.SetLemmas.{no_kid, held-certificate, held-none, held-equal, taken-at, place_inside}
use Rattle.spiffe_doc.proofs.entry_set.EntrySet.holds.Goals as goal

pub returns-in_default : goal.returns-in_default
returns-in_default g c =
    let kids = c.args.self.now.kids in
    let entry = c.requires.given ∙ ap authority_given c.in-Jwt.is in
    let none : place_of_kid kids c.in-Jwt.kid.now ≡ None = ap (place_of_kid kids) (sym c.new.ensures) ∙ sym c.get.ensures.value ∙ ap option_copied c.in_default.is in
    rw entry (held-none _ kids _ c.in-Jwt.kid.now (key_given c.in-Jwt.key) c.requires.whole.indexed none)

pub returns-then-contains : goal.returns-then-contains
returns-then-contains g c =
    let entry = c.requires.given ∙ ap authority_given c.in-X509.is in
    (rw entry (no_kid (listed c.args.self.now.front) (key_given c.in-X509.key) c.in-X509.x5c), c.is_among.ensures ∙ ap (λ present. is_among present c.args.entry.now) c.authorities-present.ensures)

pub returns-else-contains : goal.returns-else-contains
returns-else-contains g c =
    let entry = c.requires.given ∙ ap authority_given c.in-X509.is in
    let certificates = c.args.self.now.certificates in
    let there = is_among (listed c.args.self.now.front) (X509 (key_given c.in-X509.key) c.in-X509.x5c) in
    let none : has certificates (encode_of standard c.in-X509.x5c) ≡ false = ap (has certificates) (sym (c.new-text.ensures ∙ c.text.ensures.value)) ∙ sym c.contains.ensures ∙ c.if-contains.false in
    (rw entry (no_kid (listed c.args.self.now.front) (key_given c.in-X509.key) c.in-X509.x5c), c.if-contains.false ∙ rw entry (ap (λ b. b && there) (sym none) ∙ held-certificate certificates _ _ (key_given c.in-X509.key) c.in-X509.x5c c.requires.whole.indexed))

pub returns-then-is_at : goal.returns-then-is_at
returns-then-is_at g c =
    let kids = c.args.self.now.kids in
    let kept = listed c.args.self.now.front in
    let found : place_of_kid kids c.in-Jwt.kid.now ≡ Some c.in-Some.at.now = ap (place_of_kid kids) (sym c.new.ensures) ∙ sym c.get.ensures.value ∙ ap option_copied c.in-Some.is in
    let there = place_inside _ kids kept c.in-Jwt.kid.now c.in-Some.at.now c.requires.whole.indexed found in
    let same = sym (c.is_at.ensures c.args.entry.now ∙ ap (λ present. authority_eq (get_or present c.in-Some.at.now c.args.entry.now) c.args.entry.now) c.authorities-present.ensures) ∙ c.if-is_at.true in
    held-equal kept c.args.entry.now c.args.entry.now c.in-Some.at.now c.requires.whole.valid there.0 same

pub returns-else-is_at : goal.returns-else-is_at
returns-else-is_at g c =
    let kids = c.args.self.now.kids in
    let kept = listed c.args.self.now.front in
    let entry = c.requires.given ∙ ap authority_given c.in-Jwt.is in
    let found : place_of_kid kids c.in-Jwt.kid.now ≡ Some c.in-Some.at.now = ap (place_of_kid kids) (sym c.new.ensures) ∙ sym c.get.ensures.value ∙ ap option_copied c.in-Some.is in
    let there = place_inside _ kids kept c.in-Jwt.kid.now c.in-Some.at.now c.requires.whole.indexed found in
    let differs = sym (c.is_at.ensures c.args.entry.now ∙ ap (λ present. authority_eq (get_or present c.in-Some.at.now c.args.entry.now) c.args.entry.now) c.authorities-present.ensures) ∙ c.if-is_at.false in
    (ap (is_kid_taken kept) entry ∙ taken-at kept c.in-Jwt.kid.now (key_given c.in-Jwt.key) c.args.entry.now c.in-Some.at.now there (ap (authority_eq (get_or kept c.in-Some.at.now c.args.entry.now)) (sym entry) ∙ differs), refl)
