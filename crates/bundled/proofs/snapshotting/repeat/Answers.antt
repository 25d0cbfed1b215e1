use Rattle.std.proofs.Common.{◌++◌, ℕ, subst}
use Rattle.wire.specs.Output.{TellsUnlessFailed, end_of}
use Rattle.wire.proofs.OutputLemmas.{tells_more}
use Rattle.bundled.proofs.snapshotting.repeat.Goals as goal

pub returns-in_err-pass_over-clause-tells : goal.returns-in_err-pass_over-clause-tells
returns-in_err-pass_over-clause-tells g c =
    let start = end_of g.E.Write.contents c.args.err.now in
    let old = end_of g.E.Write.contents c.loop.err in
    let new = end_of g.E.Write.contents c.pass_over.new.err in
    let so = c.loop.invariant.0 in
    let line = c.in_err-pass_over.ensures in
    (so.0 ++ line.0, tells_more start old new so.0 line.0 c.requires.err_count so.1 (subst (λ (before : ℕ). TellsUnlessFailed before old new line.0) c.loop.invariant.1 line.1))

pub loop-preserved : goal.loop-preserved
loop-preserved g c =
    let start = end_of g.E.Write.contents c.args.err.now in
    let old = end_of g.E.Write.contents c.loop.err in
    let new = end_of g.E.Write.contents c.pass_over.new.err in
    let so = c.loop.invariant.0 in
    let line = c.in_ok-pass_over.ensures in
    ((so.0 ++ line.0, tells_more start old new so.0 line.0 c.requires.err_count so.1 (subst (λ (before : ℕ). TellsUnlessFailed before old new line.0) c.loop.invariant.1 line.1)), c.loop.invariant.1)
