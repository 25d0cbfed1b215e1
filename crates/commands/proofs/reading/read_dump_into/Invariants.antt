use Rattle.std.proofs.Common.{◌≡◌, ◌≤◌, ◌*◌, List, ℕ, length}
use Rattle.std.specs.Io.KnownBytes.{Consumes}
use Rattle.wire.specs.Counted.{end_in, faults_in, reads_of}
use Rattle.frame_front.specs.Dump.{Domains}
use Rattle.frame_front.specs.DumpDecoder.{HasTaken, IsDrained}
use Rattle.frame_front.proofs.ReadLemmas.{HasRead}
use Rattle.commands.proofs.reading.read_dump_into.Given as goal

-- what was read so far, at least a byte at each turn and at most a piece, has been taken
abbrev pub invariant-loop-turn : goal.invariant-loop-turn
invariant-loop-turn g l =
    (came : List ℕ) × (items : Domains)
    × Consumes (g.R.Read.remaining (end_in l.fn.reader)) (g.R.Read.remaining (end_in l.reader)) came
    × HasTaken l.decoder came items × IsDrained l.decoder
    × g.S.DumpSink.holds l.sink came items × (g.S.DumpSink.kept l.sink ≡ g.S.DumpSink.kept l.fn.sink)
    × (l.turn ≤ length came) × (length came ≤ 65536 * l.turn)
    × (faults_in l.reader ≡ faults_in l.fn.reader) × HasRead (reads_of l.fn.reader) (reads_of l.reader) l.turn
