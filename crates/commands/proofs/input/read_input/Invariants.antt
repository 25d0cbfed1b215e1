use Rattle.std.proofs.Common.{◌≡◌, ◌≤◌, length}
use Rattle.std.specs.Io.KnownBytes.{Consumes}
use Rattle.wire.specs.Counted.{end_in, faults_in, reads_of}
use Rattle.frame_front.proofs.ReadLemmas.{HasRead}
use Rattle.commands.specs.Input.{most_bytes}
use Rattle.commands.proofs.input.read_input.Given as goal

-- what was read so far, at least a byte at each turn
abbrev pub invariant-loop-turn : goal.invariant-loop-turn
invariant-loop-turn g l =
    Consumes (g.R.Read.remaining (end_in l.fn.reader)) (g.R.Read.remaining (end_in l.reader)) l.input.items
    × (l.turn ≤ length l.input.items) × (length l.input.items ≤ most_bytes l.fn.extent) × (faults_in l.reader ≡ faults_in l.fn.reader)
    × HasRead (reads_of l.fn.reader) (reads_of l.reader) l.turn
