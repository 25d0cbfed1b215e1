use Rattle.frame_front.proofs.LiveLemmas.{wants_room}
use Rattle.frame_front.proofs.laws.live_sessions_have_room.Goals as goal

pub returns : goal.returns
returns c = wants_room
