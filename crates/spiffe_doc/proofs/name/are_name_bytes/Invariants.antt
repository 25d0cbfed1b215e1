use Rattle.std.proofs.Common.{◌≡◌, take}
use Rattle.std.specs.List.{list_all}
use Rattle.spiffe_doc.specs.Name.{is_name_byte}
use Rattle.spiffe_doc.proofs.name.are_name_bytes.Given as goal

abbrev pub invariant-loop-byte : goal.invariant-loop-byte
invariant-loop-byte l = l.all ≡ list_all is_name_byte (take l.byte-index l.bytes)
