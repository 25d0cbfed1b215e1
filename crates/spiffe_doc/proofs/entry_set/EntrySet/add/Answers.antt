use Rattle.std.proofs.Common.{◌≡◌, ◌||◌, bytes_eq, cond, Some, length, ap, ◌∙◌, arith}
use Rattle.std.proofs.lemmas.List.{length-map}
use Rattle.spiffe_doc.specs.Private.EntrySet.{has, place_of_kid}
use Rattle.spiffe_doc.specs.Private.Given.{key_given, authority_given}
use Rattle.spiffe_doc.specs.Private.Fronts.{listed}
use Rattle.spiffe_doc.proofs.SetLemmas.{indexed_x509, indexed_jwt}
use Rattle.spiffe_doc.proofs.entry_set.EntrySet.add.Goals as goal

pub returns-in_ok-put_text-in-X509-clause-indexed : goal.returns-in_ok-put_text-in-X509-clause-indexed
returns-in_ok-put_text-in-X509-clause-indexed g c =
    let entry = c.requires.given ∙ ap authority_given c.in-X509.is in
    let old = c.args.self.now in
    rw (c.in_ok-push.ensures.value, entry) (
    indexed_x509 old.certificates _ old.kids (listed old.front) (key_given c.in-X509.key) c.in-X509.x5c c.requires.indexed
    (λ other. c.in_ok-put_text-in-X509.ensures other ∙ ap (λ text. bytes_eq text other || has old.certificates other) (c.new.ensures ∙ c.text.ensures.value)))

pub returns-in_ok-put_kid-in-Jwt-clause-indexed : goal.returns-in_ok-put_kid-in-Jwt-clause-indexed
returns-in_ok-put_kid-in-Jwt-clause-indexed g c =
    let entry = c.requires.given ∙ ap authority_given c.in-Jwt.is in
    let old = c.args.self.now in
    let last : c.len-at.result ≡ length (listed old.front) = rw length-map (omega (arith, c.len-at.ensures)) in
    rw (c.in_ok-push.ensures.value, entry) (
    indexed_jwt old.certificates old.kids _ (listed old.front) c.in-Jwt.kid.now (key_given c.in-Jwt.key) c.requires.indexed
    (λ other. c.in_ok-put_kid-in-Jwt.ensures other
    ∙ ap (λ kid. cond (bytes_eq kid other) (Some c.len-at.result) (place_of_kid old.kids other)) c.new-in-Jwt.ensures
    ∙ ap (λ n. cond (bytes_eq c.in-Jwt.kid.now other) (Some n) (place_of_kid old.kids other)) last))
