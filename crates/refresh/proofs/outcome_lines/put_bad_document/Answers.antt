use Rattle.std.proofs.Common.{◌≡◌, ◌++◌, codes, decimal, ap, ◌∙◌}
use Rattle.spiffe_doc.specs.Document.{place_of}
use Rattle.spiffe_doc.specs.Number.{doc_number}
use Rattle.refresh.specs.OutcomeLine.{place_words}
use Rattle.refresh.proofs.Words.{three_parts}
use Rattle.refresh.proofs.outcome_lines.put_bad_document.Goals as goal

pub returns-clause-items : goal.returns-clause-items
returns-clause-items c =
    let number : c.from.result ≡ doc_number c.args.error.now = (cc) in
    let place : c.place.result ≡ place_of c.args.error.now = c.place.ensures in
    three_parts c.args.line.now.items (codes "bad document ") (decimal (doc_number c.args.error.now)) (place_words (place_of c.args.error.now))
    c.put.new.line.items c.put_number.new.line.items c.put_place.new.line.items
    c.put.ensures.items
    (c.put_number.ensures.items ∙ ap (λ n. c.put.new.line.items ++ decimal n) number)
    (c.put_place.ensures.items ∙ ap (λ p. c.put_number.new.line.items ++ place_words p) place)
