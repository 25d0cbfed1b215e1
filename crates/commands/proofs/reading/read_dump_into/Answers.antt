use Rattle.std.proofs.Common.{◌≡◌, ◌+◌, ◌<◌, ◌≤◌, ◌^◌, ◌++◌, length, length-append, arith, ◌∙◌}
use Rattle.std.specs.Io.KnownBytes.{Consumes}
use Rattle.std.proofs.KnownBytes.{Consumes-trans}
use Rattle.wire.specs.Counted.{end_in}
use Rattle.frame_front.proofs.ReadLemmas.{HasRead-more}
use Rattle.commands.proofs.reading.read_dump_into.Goals as goal

pub loop-turn-preserved : goal.loop-turn-preserved
loop-turn-preserved g c =
    let so_far = c.loop-turn.invariant in
    let piece = c.split_at.result.0.now in
    let long : length piece ≡ c.in-Ok-read.count = c.split_at.ensures.front_len in
    let short : c.in-Ok-read.count ≤ 65536 = omega (arith, c.in-Ok-read.ensures.bound) in
    let few : length so_far.0 + length piece < 2 ^ 64 = omega (arith, so_far.8, c.loop-turn-test.true, long, short) in
    let consumes : Consumes (g.R.Read.remaining (end_in c.loop-turn.reader)) (g.R.Read.remaining (end_in c.read.new.self)) piece =
    rw c.split_at.ensures.front c.in-Ok-read.ensures.bytes.0 in
    let more = c.in_default-take_piece.ensures.ok so_far.0 so_far.1 so_far.3 so_far.5 few in (
      so_far.0 ++ piece,
      more.0,
      Consumes-trans _ _ _ so_far.0 piece so_far.2 consumes,
      more.1,
      c.in_default-take_piece.ensures.drained,
      more.2,
      c.in_default-take_piece.ensures.kept ∙ so_far.6,
      omega (arith, length-append so_far.0 piece, so_far.7, long, c.if-count-eq0.false),
      omega (arith, length-append so_far.0 piece, so_far.8, long, short),
      c.in-Ok-read.ensures.quiet ∙ so_far.9,
      HasRead-more _ _ _ _ so_far.10 c.in-Ok-read.ensures.one_read (omega (arith, c.loop-turn-test.true)),
    )
