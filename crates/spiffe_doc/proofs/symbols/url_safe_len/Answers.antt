use Rattle.std.proofs.Common.{sym, ◌∙◌}
use Rattle.spiffe_doc.proofs.SymbolLemmas.{Encodes-url_safe}
use Rattle.spiffe_doc.proofs.symbols.url_safe_len.Goals as goal

pub returns-then-are_url_safe : goal.returns-then-are_url_safe
returns-then-are_url_safe c = Encodes-url_safe c.args.text.now c.bytes_len.result (sym c.are_url_safe.ensures ∙ c.if-are_url_safe.true) (c.ends_whole.ensures c.if-ends_whole.true) c.bytes_len.ensures
