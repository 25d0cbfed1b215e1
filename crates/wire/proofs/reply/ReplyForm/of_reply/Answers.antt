use Rattle.wire.proofs.AnswerLines.{all_is_lined}
use Rattle.wire.proofs.reply.ReplyForm.of_reply.Goals as goal

pub returns-in-All-clause-lined : goal.returns-in-All-clause-lined
returns-in-All-clause-lined c = all_is_lined c.len.result c.len.type_inv
