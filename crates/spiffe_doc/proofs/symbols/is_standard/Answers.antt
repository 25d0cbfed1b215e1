use Rattle.std.proofs.Common.{arith}
use Rattle.spiffe_doc.proofs.SymbolLemmas.{standard_symbol-is}
use Rattle.spiffe_doc.proofs.symbols.is_standard.Goals as goal

pub returns : goal.returns
returns c = rw c.is_ascii_alphanumeric.ensures.value (standard_symbol-is c.args.byte (omega arith))
