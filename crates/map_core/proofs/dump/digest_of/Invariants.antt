use Rattle.std.proofs.Common.{◌++◌, length, take}
use Rattle.std.specs.List.{flat_map}
use Rattle.sha2.specs.Hashers.{Holds256}
use Rattle.map_core.specs.Dump.{frame, count_payload, item_frame}
use Rattle.map_core.proofs.dump.digest_of.Given as goal

-- the count and the frames of the domains so far
abbrev pub invariant-pairs : goal.invariant-pairs
invariant-pairs l = Holds256 l.hasher (frame (count_payload (length l.fn.pairs)) ++ flat_map item_frame (take l.domain-index l.fn.pairs))
