use Rattle.wire.proofs.AnswerLines.{answers_are_frames}
use Rattle.wire.proofs.laws.answers_are_replies.Goals as goal

pub returns : goal.returns
returns c = answers_are_frames
