use Rattle.wire.proofs.OutputLemmas.{WritesFront-longer, WritesFront-then}
use Rattle.wire.proofs.output.write_both.Goals as goal

pub returns-in_err-write_whole-clause-front : goal.returns-in_err-write_whole-clause-front
returns-in_err-write_whole-clause-front g c =
    WritesFront-longer _ _ c.args.first.now c.args.others.now c.in_err-write_whole.ensures.front

pub returns-clause-front : goal.returns-clause-front
returns-clause-front g c =
    WritesFront-then _ _ _ c.args.first.now c.args.others.now c.in_ok-write_whole.ensures.ok c.write_whole-2.ensures.front
