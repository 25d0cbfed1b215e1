use Rattle.std.proofs.Common.{◌≡◌, ◌≤◌, ◌-◌, length, take}
use Rattle.std.specs.Io.KnownBytes.{Consumes}
use Rattle.wire.specs.Counted.{end_in, faults_in}
use Rattle.client.proofs.reading.fill.Given as goal

-- the filled front is what was read
abbrev pub invariant-loop-filled : goal.invariant-loop-filled
invariant-loop-filled g l =
    (length l.buffer ≡ length l.fn.buffer) × (l.filled ≤ length l.buffer)
    × Consumes (g.R.Read.remaining (end_in l.fn.reader)) (g.R.Read.remaining (end_in l.reader)) (take l.filled l.buffer)
    × (faults_in l.reader ≡ faults_in l.fn.reader)

abbrev pub decreases-loop-filled : goal.decreases-loop-filled
decreases-loop-filled g l = length l.buffer - l.filled
