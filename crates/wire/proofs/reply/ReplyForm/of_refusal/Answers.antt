use Rattle.wire.proofs.AnswerLines.{refusal_line}
use Rattle.wire.proofs.reply.ReplyForm.of_refusal.Goals as goal

pub returns-clause-lined : goal.returns-clause-lined
returns-clause-lined c = refusal_line c.args.refusal.now c.number.result c.refusal_detail.result c.number.ensures c.refusal_detail.ensures.is c.refusal_detail.ensures.fits
