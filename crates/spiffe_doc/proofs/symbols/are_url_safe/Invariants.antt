use Rattle.std.proofs.Common.{◌≡◌, take}
use Rattle.std.specs.List.{list_all}
use Rattle.base64.specs.Engines.{url_safe_no_pad}
use Rattle.spiffe_doc.specs.Private.Symbols.{is_symbol}
use Rattle.spiffe_doc.proofs.symbols.are_url_safe.Given as goal

abbrev pub invariant-loop-byte : goal.invariant-loop-byte
invariant-loop-byte l = l.all ≡ list_all (is_symbol url_safe_no_pad) (take l.byte-index l.text)
