use Rattle.wire.proofs.FrameLemmas.{frames_unique}
use Rattle.wire.proofs.laws.frames_of_a_stream_are_one.Goals as goal

pub returns : goal.returns
returns c = frames_unique
