use Rattle.std.proofs.Common.{◌≡◌, []}
use Rattle.wire.specs.Counted.{end_in, faults_in}
use Rattle.wire.specs.Private.Decoders.{DecodedSoFar}
use Rattle.wire.proofs.decode.decode_stream.Given as goal

-- what was read and written so far; nothing waits to be written
abbrev pub invariant-loop-turn : goal.invariant-loop-turn
invariant-loop-turn g l =
    DecodedSoFar (g.R.Read.remaining (end_in l.fn.reader)) (g.R.Read.remaining (end_in l.reader))
    (g.W.Write.contents (end_in l.fn.writer)) (g.W.Write.contents (end_in l.writer)) l.decoder l.frames l._turn
    × (faults_in l.reader ≡ faults_in l.fn.reader) × (faults_in l.writer ≡ faults_in l.fn.writer) × (l.out.items ≡ [])
