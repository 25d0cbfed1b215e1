use Rattle.wire.proofs.AnswerLines.{held_is_lined}
use Rattle.wire.proofs.answer.held.Goals as goal

pub returns-clause-lined : goal.returns-clause-lined
returns-clause-lined c = held_is_lined c.args.shard c.args.revision (c.ranges.shard).fits (c.ranges.revision).fits
