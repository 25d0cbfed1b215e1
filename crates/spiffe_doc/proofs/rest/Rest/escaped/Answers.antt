use Rattle.std.proofs.Common.{◌∙◌, sym}
use Rattle.spiffe_doc.proofs.MatchingLemmas.{after-escape_next, after-escape_end}
use Rattle.spiffe_doc.proofs.rest.Rest.escaped.Goals as goal

pub loop-byte-preserved : goal.loop-byte-preserved
loop-byte-preserved c =
    let inside = rw c.as_bytes-byte-items.ensures.value at c.loop-byte-test.true in
    rw (c.escaped_byte-rest.ensures, c.as_bytes-byte-items.ensures.value)
    (c.loop-byte.invariant ∙ after-escape_next c.args.text.now c.loop-byte.byte-index c.loop-byte.rest inside)

pub returns : goal.returns
returns c =
    let past = rw c.as_bytes-byte-items.ensures.value at c.loop-byte-test.false in
    sym (c.loop-byte.invariant ∙ after-escape_end c.args.text.now c.loop-byte.byte-index c.loop-byte.rest past)
