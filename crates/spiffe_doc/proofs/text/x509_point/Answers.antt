use Rattle.spiffe_doc.proofs.PlainTexts.{x509_point-written}
use Rattle.spiffe_doc.proofs.text.x509_point.Goals as goal

pub returns : goal.returns
returns g c =
    rw (c.in_ok-extend_from_slice.ensures.items, c.in_ok-push_pair-4.ensures, c.in_ok-push_pair-3.ensures, c.in_ok-push_pair-2.ensures, c.in_ok-push_pair.ensures, c.in_ok-text.ensures, c.curve_name.ensures)
    (x509_point-written c.args.curve c.args.x.now c.args.y.now c.args.x5c.now c.requires.x c.requires.y c.requires.x5c)
