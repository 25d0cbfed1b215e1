use Rattle.frame_front.proofs.PlainLemmas.{errors_change_nothing}
use Rattle.frame_front.proofs.laws.errors_change_nothing.Goals as goal

pub returns : goal.returns
returns g c = λ terms next old new payload text m shown answered tells.
    errors_change_nothing g.A.Ask.answers g.A.Ask.shows g.met.A.Ask.answers_plainly payload (terms, old) (next, new) text m shown answered tells
