use Rattle.std.proofs.Common.{◌≤◌, length}
use Rattle.frame_front.specs.Live.{most_frames}
use Rattle.frame_front.proofs.LiveLemmas.{Answering}
use Rattle.frame_front.proofs.live.LiveSession.answer.Given as goal

abbrev pub invariant-loop-frames : goal.invariant-loop-frames
invariant-loop-frames g l =
    Answering g.A.Ask.answers l.fn.self l.self l.fn.ask l.ask l.frames × (l.frames ≤ most_frames)

abbrev pub decreases-loop-frames : goal.decreases-loop-frames
decreases-loop-frames g l = length l.self.kept
