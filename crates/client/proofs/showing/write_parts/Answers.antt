use Rattle.std.proofs.Common.{◌++◌}
use Rattle.wire.proofs.OutputLemmas.{WritesFront-then}
use Rattle.client.proofs.showing.write_parts.Goals as goal

pub returns-in_err-write_whole-clause-front : goal.returns-in_err-write_whole-clause-front
returns-in_err-write_whole-clause-front g c =
    WritesFront-then _ _ _ (c.args.head.now ++ c.args.text.now) c.args.end.now c.in_ok-write_both.ensures.ok c.in_err-write_whole.ensures.front

pub returns-clause-front : goal.returns-clause-front
returns-clause-front g c =
    WritesFront-then _ _ _ (c.args.head.now ++ c.args.text.now) c.args.end.now c.in_ok-write_both.ensures.ok c.in_ok-write_whole.ensures.front
