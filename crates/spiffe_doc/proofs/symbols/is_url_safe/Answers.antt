use Rattle.std.proofs.Common.{arith}
use Rattle.spiffe_doc.proofs.SymbolLemmas.{url_safe_symbol-is}
use Rattle.spiffe_doc.proofs.symbols.is_url_safe.Goals as goal

pub returns : goal.returns
returns c = rw c.is_ascii_alphanumeric.ensures.value (url_safe_symbol-is c.args.byte (omega arith))
