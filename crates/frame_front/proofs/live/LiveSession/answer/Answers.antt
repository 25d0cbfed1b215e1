use Rattle.std.proofs.Common.{arith}
use Rattle.frame_front.proofs.LiveLemmas.{Answering-none, Answering-then, AnswersFrame-smaller}
use Rattle.frame_front.proofs.live.LiveSession.answer.Goals as goal

pub loop-frames-init : goal.loop-frames-init
loop-frames-init g c = (Answering-none g.A.Ask.answers c.args.self.now c.args.ask.now, omega arith)

pub loop-frames-smaller : goal.loop-frames-smaller
loop-frames-smaller g c = AnswersFrame-smaller g.A.Ask.answers _ _ _ _ _ c.in-Answered.ensures

pub loop-frames-preserved : goal.loop-frames-preserved
loop-frames-preserved g c =
    let so_far = c.loop-frames.invariant.0 in
    let step = c.in-Answered.ensures in
    (Answering-then g.A.Ask.answers c.args.self.now c.args.ask.now _ _ _ _ _ so_far _ step, omega (arith, so_far.long, step.below))
