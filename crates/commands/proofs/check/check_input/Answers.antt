use Rattle.std.proofs.Common.{ℕ, List, subst}
use Rattle.wire.specs.Counted.{end_in}
use Rattle.commands.specs.Check.{input_document}
use Rattle.commands.specs.Private.Checking.{ChecksOne}
use Rattle.commands.proofs.Checked.{judges_input}
use Rattle.commands.proofs.check.check_input.Goals as goal

pub returns-clause-checks : goal.returns-clause-checks
returns-clause-checks g c =
    let held = g.W.Write.contents (end_in c.args.out.now) in
    let new = g.W.Write.contents (end_in c.check_document.new.out) in
    judges_input c.check_document.result c.in-Ok.input.items (g.R.Read.remaining (end_in c.args.reader.now)) (g.R.Read.remaining (end_in c.read_input.new.reader)) held new c.in-Ok.ensures.ok
    (subst (λ (text : List ℕ). ChecksOne c.check_document.result (input_document text) held new) c.as_slice.ensures.value c.check_document.ensures.checks)
