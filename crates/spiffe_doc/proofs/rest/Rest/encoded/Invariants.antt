use Rattle.std.proofs.Common.{◌≡◌, length}
use Rattle.base64.specs.GeneralPurpose.{encode_of}
use Rattle.spiffe_doc.specs.Private.Matching.{after}
use Rattle.spiffe_doc.proofs.rest.Rest.encoded.Given as goal

abbrev pub invariant-loop-bytes : goal.invariant-loop-bytes
invariant-loop-bytes l = after (encode_of l.engine l.fn.bytes) l.fn.self ≡ after (encode_of l.engine l.bytes) l.rest

abbrev pub decreases-loop-bytes : goal.decreases-loop-bytes
decreases-loop-bytes l = length l.bytes
