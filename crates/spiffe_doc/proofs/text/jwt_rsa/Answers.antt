use Rattle.spiffe_doc.proofs.PlainTexts.{jwt_rsa-written}
use Rattle.spiffe_doc.proofs.text.jwt_rsa.Goals as goal

pub returns : goal.returns
returns g c =
    rw (c.in_ok-extend_from_slice-2.ensures.items, c.in_ok-push_pair-2.ensures, c.in_ok-text.ensures, c.in_ok-extend_from_slice.ensures.items, c.in_ok-push_pair.ensures, c.in_ok-front.ensures)
    (jwt_rsa-written c.args.kid.now c.args.n.now c.args.e.now c.requires.n c.requires.e)
