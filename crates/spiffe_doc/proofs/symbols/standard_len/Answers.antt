use Rattle.std.proofs.Common.{sym, ◌∙◌}
use Rattle.spiffe_doc.proofs.SymbolLemmas.{Encodes-standard}
use Rattle.spiffe_doc.proofs.symbols.standard_len.Goals as goal

pub returns-then-are_standard : goal.returns-then-are_standard
returns-then-are_standard c = Encodes-standard c.args.text.now _ c.bytes_len.result (sym c.are_standard.ensures ∙ c.if-are_standard.true) (c.ends_whole.ensures c.if-ends_whole.true) c.in_ok-symbols.ensures c.bytes_len.ensures
