use Rattle.std.proofs.Common.{◌≡◌, ◌+◌, ◌++◌, replicate}
use Rattle.arrayvec.specs.ArrayVec.{array_vec_len}
use Rattle.trace_lines.proofs.picture_row.put_spaces.Given as goal

-- the spaces so far
abbrev pub invariant-loop : goal.invariant-loop
invariant-loop l = (l.line.items ≡ l.fn.line.items ++ replicate l.counter 32) × (array_vec_len l.line ≡ array_vec_len l.fn.line + l.counter)
