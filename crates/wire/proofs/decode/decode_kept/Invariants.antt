use Rattle.std.proofs.Common.{length}
use Rattle.wire.specs.Private.Decoders.{FramesSoFar}
use Rattle.wire.proofs.decode.decode_kept.Given as goal

abbrev pub invariant-loop-payload : goal.invariant-loop-payload
invariant-loop-payload l = FramesSoFar l.initial.decoder l.initial.frames l.decoder l.frames l.initial.out.items l.out.items

abbrev pub decreases-loop-payload : goal.decreases-loop-payload
decreases-loop-payload l = length l.decoder
