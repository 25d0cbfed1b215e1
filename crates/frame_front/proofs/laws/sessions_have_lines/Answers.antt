use Rattle.frame_front.proofs.SessionLines.{session_has_lines}
use Rattle.frame_front.proofs.laws.sessions_have_lines.Goals as goal

pub returns : goal.returns
returns g c = session_has_lines g.A.Ask.answers
