use Rattle.std.proofs.Common.{◌≡◌, drop}
use Rattle.spiffe_doc.specs.Private.Matching.{strip_quote}
use Rattle.spiffe_doc.proofs.rest.behind_quote.Given as goal

abbrev pub invariant-loop-at : goal.invariant-loop-at
invariant-loop-at l = strip_quote l.text ≡ strip_quote (drop l.at l.text)
