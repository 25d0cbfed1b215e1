use Rattle.wire.proofs.AnswerLines.{moved_is_lined}
use Rattle.wire.proofs.answer.moved.Goals as goal

pub returns-clause-lined : goal.returns-clause-lined
returns-clause-lined c = moved_is_lined c.args.shard c.args.first c.args.second (c.ranges.shard).fits (c.ranges.first).fits (c.ranges.second).fits
