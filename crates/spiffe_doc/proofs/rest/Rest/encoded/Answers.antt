use Rattle.std.proofs.Common.{◌∙◌}
use Rattle.spiffe_doc.proofs.MatchingLemmas.{after-chunk}
use Rattle.spiffe_doc.proofs.rest.Rest.encoded.Goals as goal

pub loop-bytes-preserved : goal.loop-bytes-preserved
loop-bytes-preserved c =
    rw (c.encoded_chunk-rest.ensures, c.split_at.ensures.front, c.split_at.ensures.back)
    (c.loop-bytes.invariant ∙ after-chunk c.args.engine.now c.loop-bytes.bytes.now c.loop-bytes.rest c.loop-bytes-test.true)
