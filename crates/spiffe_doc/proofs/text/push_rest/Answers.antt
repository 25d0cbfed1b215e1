use Rattle.std.proofs.Common.{◌++◌, codes, ap, ◌∙◌}
use Rattle.spiffe_doc.specs.Private.Writing.{number_text}
use Rattle.spiffe_doc.proofs.TextLemmas.{rest_text-pieces}
use Rattle.spiffe_doc.proofs.text.push_rest.Goals as goal

pub returns : goal.returns
returns g c =
    let hints = number_text (codes ",\"spiffe_refresh_hint\":") c.args.refresh_hint in
    let sequences = number_text (codes ",\"spiffe_sequence\":") c.args.sequence in
    c.in_ok-push-2.ensures.items
    ∙ ap (λ text. text ++ codes "}") (c.in_ok-push_number-2.ensures
    ∙ ap (λ text. text ++ sequences) (c.in_ok-push_number.ensures
    ∙ ap (λ text. text ++ hints) c.in_ok-push.ensures.items))
    ∙ rest_text-pieces c.args.text.now.items c.args.refresh_hint c.args.sequence
