use Rattle.std.proofs.Common.{◌++◌, List, ℕ, codes, ap, append_assoc, ◌∙◌}
use Rattle.dump_views.specs.Pem.{line, pem_of_certificate}
use Rattle.dump_views.proofs.LineLemmas.{wrapped}
use Rattle.dump_views.proofs.pem.put_certificate.Goals as goal

abbrev first : List ℕ
first = line (codes "-----BEGIN CERTIFICATE-----")

abbrev last : List ℕ
last = line (codes "-----END CERTIFICATE-----")

pub returns-clause-ok : goal.returns-clause-ok
unfolding pem_of_certificate
returns-clause-ok c =
    let out = c.args.out.now.items in
    let lines = wrapped c.args.der.now in
    c.in_ok-extend_from_slice-2.ensures.items
    ∙ ap (λ (o : List ℕ). o ++ last) (c.in_ok-put_lines.ensures.ok ∙ ap (λ (o : List ℕ). o ++ lines) c.in_ok-extend_from_slice.ensures.items)
    ∙ append_assoc (out ++ first) lines last ∙ append_assoc out first (lines ++ last)
