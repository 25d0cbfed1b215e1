use Rattle.std.proofs.Common.{◌≡◌, ◌+◌, ◌<◌, length, arith, sym, subst}
use Rattle.frame_front.specs.Dump.{IsBadDump}
use Rattle.frame_front.proofs.DecoderLemmas.{HasNone-same, IsAt-same, ended_long, ended_short, long_some, place_below}
use Rattle.frame_front.proofs.dump_decoder.DumpDecoder.finish_items.Goals as goal

pub returns-then-self-count-clause-bad : goal.returns-then-self-count-clause-bad
returns-then-self-count-clause-bad c = λ came items taken drained.
    let decoder = c.args.self.now in
    let at = IsAt-same _ _ came decoder.frames decoder.place decoder.last items c.requires taken.at in
    let below : decoder.place < length came = place_below came decoder.frames c.args.count decoder.place decoder.last items taken.bytes at in
    let next : c.saturating_add.result ≡ decoder.place + 1 = omega (arith, below, taken.few, c.saturating_add.ensures) in
    subst (IsBadDump came) (sym next)
    (ended_short came decoder.frames c.args.count decoder.place decoder.last items taken.bytes at c.if-self-count.true
    (HasNone-same _ _ decoder.frames decoder.place c.requires drained c.if-self-count.true))

pub returns-then-len-gt0-clause-bad : goal.returns-then-len-gt0-clause-bad
returns-then-len-gt0-clause-bad c = λ came items taken drained.
    let decoder = c.args.self.now in
    let at = IsAt-same _ _ came decoder.frames decoder.place decoder.last items c.requires taken.at in
    let below : decoder.place < length came = place_below came decoder.frames c.args.count decoder.place decoder.last items taken.bytes at in
    let next : c.saturating_add-then-len-gt0.result ≡ decoder.place + 1 = omega (arith, below, taken.few, c.saturating_add-then-len-gt0.ensures) in
    let some : 0 < length decoder.frames = omega (arith, c.if-len-gt0.true, c.len.ensures) in
    subst (IsBadDump came) (sym next)
    (ended_long came decoder.frames c.args.count decoder.place decoder.last items taken.bytes at c.if-self-count.false (long_some decoder.frames some))
