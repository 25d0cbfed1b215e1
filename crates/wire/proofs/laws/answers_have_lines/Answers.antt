use Rattle.wire.proofs.AnswerLines.{answers_have_lines}
use Rattle.wire.proofs.laws.answers_have_lines.Goals as goal

pub returns : goal.returns
returns c = answers_have_lines
