use Rattle.std.proofs.Common.{rules}
use Rattle.spiffe_doc.proofs.TextLemmas.{front_text-nil}
use Rattle.spiffe_doc.proofs.front.Front.new.Goals as goal

pub returns-clause-whole : goal.returns-clause-whole
returns-clause-whole g c = rw c.new.ensures.items (record { placed = tt; written = search (rules, front_text-nil) })
