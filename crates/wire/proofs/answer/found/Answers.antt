use Rattle.wire.proofs.AnswerLines.{found_line}
use Rattle.wire.proofs.answer.found.Goals as goal

pub returns-clause-lined : goal.returns-clause-lined
returns-clause-lined c = found_line c.args.bundle.now c.text.result.now c.authorities-authorities.ensures.valid c.text.ensures
