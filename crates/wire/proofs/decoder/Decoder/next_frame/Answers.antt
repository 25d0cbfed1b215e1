use Rattle.std.proofs.Common.{◌+◌, arith, ap, length, drop, length-append}
use Rattle.wire.proofs.FrameLemmas.{length-frame}
use Rattle.wire.proofs.decoder.Decoder.next_frame.Goals as goal

pub pass-requires-clause-stands : goal.pass-requires-clause-stands
pass-requires-clause-stands c =
    let payload = c.in-Some.payload.now in
    let rest = drop (4 + length payload) c.args.self.now in
    let found = rw c.in-Some.is at c.in_ok-payload.ensures.found in
    omega (arith, c.in-Ok.ensures.len, ap length found.1, length-frame payload rest, length-append payload rest)
