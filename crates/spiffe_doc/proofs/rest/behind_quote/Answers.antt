use Rattle.std.proofs.Common.{◌+◌, Some, drop, ap, sym, ◌∙◌, arith, length-drop}
use Rattle.std.proofs.lemmas.List.{take_all}
use Rattle.spiffe_doc.proofs.MatchingLemmas.{strip_quote-here, strip_quote-next, strip_quote-end}
use Rattle.spiffe_doc.proofs.rest.behind_quote.Goals as goal

pub loop-at-preserved : goal.loop-at-preserved
loop-at-preserved c = c.loop-at.invariant ∙ strip_quote-next c.args.text.now c.loop-at.at c.loop-at-test.true c.if-byte-eq34.false

pub returns-then-byte-eq34 : goal.returns-then-byte-eq34
returns-then-byte-eq34 c =
    let rest = drop (c.loop-at.at + 1) c.args.text.now in
    c.loop-at.invariant ∙ strip_quote-here c.args.text.now c.loop-at.at c.loop-at-test.true c.if-byte-eq34.true
    ∙ ap Some (sym (take_all _ rest (omega (arith, length-drop (c.loop-at.at + 1) c.args.text.now))))

pub returns : goal.returns
returns c = c.loop-at.invariant ∙ strip_quote-end c.args.text.now c.loop-at.at c.loop-at-test.false
