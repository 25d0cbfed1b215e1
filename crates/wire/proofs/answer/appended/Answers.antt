use Rattle.std.proofs.Common.{Some}
use Rattle.wire.proofs.AnswerLines.{appended_is_lined}
use Rattle.wire.proofs.answer.appended.Goals as goal

pub returns-clause-lined : goal.returns-clause-lined
returns-clause-lined c = appended_is_lined (Some c.args.sequence) (c.ranges.sequence).fits
