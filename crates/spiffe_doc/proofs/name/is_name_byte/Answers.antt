use Rattle.std.proofs.Common.{arith}
use Rattle.spiffe_doc.proofs.NameLemmas.{name_byte-tabled}
use Rattle.spiffe_doc.proofs.name.is_name_byte.Goals as goal

pub returns : goal.returns
returns c = name_byte-tabled c.args.byte (omega arith)
