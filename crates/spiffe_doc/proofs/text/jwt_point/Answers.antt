use Rattle.spiffe_doc.proofs.PlainTexts.{jwt_point-written}
use Rattle.spiffe_doc.proofs.text.jwt_point.Goals as goal

pub returns : goal.returns
returns g c =
    rw (c.in_ok-extend_from_slice-2.ensures.items, c.in_ok-push_pair-3.ensures, c.in_ok-push_pair-2.ensures, c.in_ok-text.ensures, c.in_ok-extend_from_slice.ensures.items, c.in_ok-push_pair.ensures, c.in_ok-front.ensures, c.curve_name.ensures)
    (jwt_point-written c.args.kid.now c.args.curve c.args.x.now c.args.y.now c.requires.x c.requires.y)
