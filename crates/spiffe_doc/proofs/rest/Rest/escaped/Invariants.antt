use Rattle.std.proofs.Common.{◌≡◌, drop}
use Rattle.json.specs.Print.{escape}
use Rattle.spiffe_doc.specs.Private.Matching.{after}
use Rattle.spiffe_doc.proofs.rest.Rest.escaped.Given as goal

abbrev pub invariant-loop-byte : goal.invariant-loop-byte
invariant-loop-byte l = after (escape l.text) l.fn.self ≡ after (escape (drop l.byte-index l.text)) l.rest
