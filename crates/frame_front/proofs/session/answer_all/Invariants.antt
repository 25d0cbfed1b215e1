use Rattle.std.proofs.Common.{◌≡◌, ◌+◌, ◌*◌, length}
use Rattle.std.specs.Prelude.{min}
use Rattle.wire.specs.Counted.{end_in, faults_in}
use Rattle.frame_front.specs.Live.{waiting}
use Rattle.frame_front.proofs.SessionLemmas.{Gathering}
use Rattle.frame_front.proofs.session.answer_all.Given as goal

abbrev pub invariant-loop-live : goal.invariant-loop-live
invariant-loop-live g l =
    Gathering g.A.Ask.answers (g.W.Write.contents (end_in l.fn.writer)) (g.W.Write.contents (end_in l.writer)) l.fn.live l.live l.fn.ask l.ask l.count
    × (faults_in l.writer ≡ faults_in l.fn.writer)

-- a step leaves fewer bytes of the input, or none that waits
abbrev pub decreases-loop-live : goal.decreases-loop-live
decreases-loop-live g l = 2 * length l.live.kept + min 1 (length (waiting l.live))
