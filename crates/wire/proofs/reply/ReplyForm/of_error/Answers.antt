use Rattle.wire.proofs.AnswerLines.{worn_is_lined}
use Rattle.wire.proofs.reply.ReplyForm.of_error.Goals as goal

pub returns-in-Worn-clause-lined : goal.returns-in-Worn-clause-lined
returns-in-Worn-clause-lined c = worn_is_lined c.shard_number.result c.shard_number.type_inv
