use Rattle.spiffe_doc.proofs.RoundTrip.{entry-entry_text}
use Rattle.spiffe_doc.proofs.laws.entries_are_read_back.Goals as goal

pub returns : goal.returns
returns c = entry-entry_text
