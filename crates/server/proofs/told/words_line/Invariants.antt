use Rattle.std.proofs.Common.{◌≤◌, All}
use Rattle.server.proofs.told.words_line.Given as goal

abbrev pub invariant-loop-byte : goal.invariant-loop-byte
invariant-loop-byte l = All (λ byte. 32 ≤ byte) l.line.items
