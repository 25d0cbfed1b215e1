use Rattle.wire.proofs.FramesExist.{frames, has_frames}
use Rattle.wire.proofs.laws.each_stream_has_frames.Goals as goal

pub returns : goal.returns
returns c = λ stream fits. ((frames stream).payloads, (frames stream).rest, has_frames stream fits)
