use Rattle.spiffe_doc.proofs.PlainTexts.{x509_rsa-written}
use Rattle.spiffe_doc.proofs.text.x509_rsa.Goals as goal

pub returns : goal.returns
returns g c =
    rw (c.in_ok-extend_from_slice.ensures.items, c.in_ok-push_pair-3.ensures, c.in_ok-push_pair-2.ensures, c.in_ok-push_pair.ensures, c.in_ok-text.ensures)
    (x509_rsa-written c.args.n.now c.args.e.now c.args.x5c.now c.requires.n c.requires.e c.requires.x5c)
