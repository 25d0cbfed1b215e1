use Rattle.std.proofs.Common.{◌+◌, length, drop, ap, arith, length-append}
use Rattle.wire.proofs.FrameLemmas.{length-frame}
use Rattle.frame_front.proofs.live.LiveSession.step.Goals as goal

pub pass-requires-clause-stands : goal.pass-requires-clause-stands
pass-requires-clause-stands g c =
    let payload = c.in-Ok-Some.payload.now in
    let found = rw c.in-Ok-Some.field-0-is at c.in-Ok-Some.ensures.found in
    let rest = drop (4 + length payload) c.self.inside.decoder in
    omega (arith, ap length found.1, length-frame payload rest, length-append payload rest)
