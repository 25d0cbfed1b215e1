use Rattle.std.proofs.Common.{◌≡◌, take}
use Rattle.std.specs.List.{list_all}
use Rattle.base64.specs.Engines.{standard}
use Rattle.spiffe_doc.specs.Private.Symbols.{is_symbol}
use Rattle.spiffe_doc.proofs.symbols.are_standard.Given as goal

abbrev pub invariant-loop-byte : goal.invariant-loop-byte
invariant-loop-byte l = l.all ≡ list_all (is_symbol standard) (take l.byte-index l.text)
