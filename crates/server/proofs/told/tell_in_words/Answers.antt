use Rattle.std.proofs.Common.{ℕ, List, inr, subst}
use Rattle.commands.specs.Fault.{fault_line}
use Rattle.wire.specs.Output.{TellsUnlessFailed, end_of}
use Rattle.wire.proofs.OutputLemmas.{tells_more}
use Rattle.server.proofs.told.tell_in_words.Goals as goal

pub returns-clause-tells : goal.returns-clause-tells
returns-clause-tells g c =
    let before = c.faults-before.ensures in
    let start = end_of g.E.Write.contents c.args.err.now in
    let old = end_of g.E.Write.contents c.tell-status.new.err in
    let new = end_of g.E.Write.contents c.tell_line.new.err in
    let words = c.in-Some-words_line.line.items in
    let shown = subst (λ (b : ℕ). TellsUnlessFailed b old new c.as_slice.result.now) before c.tell_line.ensures in
    let follows = subst (λ (text : List ℕ). TellsUnlessFailed start.faults old new text) c.as_slice.ensures.value shown in
    inr (words, c.in-Some-words_line.ensures, tells_more start old new (fault_line c.args.fault) words c.requires c.tell-status.ensures.tells follows)
