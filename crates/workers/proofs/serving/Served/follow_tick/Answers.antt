use Rattle.std.proofs.Common.{ap, arith}
use Rattle.workers.specs.Private.Serving.{work_of}
use Rattle.workers.proofs.ServingLemmas.{ticks_follow, ticks_more, ticks_serve}
use Rattle.workers.proofs.serving.Served.follow_tick.Goals as goal

pub loop-place-init : goal.loop-place-init
loop-place-init g c =
    let tick = c.tick-places.ensures in (
      ticks_serve g.A.Ask.answers c.args.worker.now.limits c.tick-places.result c.oldest_reply-oldest.result (work_of c.args.self.now) (work_of c.tick-places.new.self) c.args.ask.now.ask tick.ticked tick.beyond c.oldest_reply-oldest.ensures (ap (λ w. w.items) tick.waiting) tick.ends,
      omega arith,
    )

pub loop-place-preserved : goal.loop-place-preserved
loop-place-preserved g c =
    let inv = c.loop-place.invariant in (
      ticks_more g.A.Ask.answers c.args.worker.now.limits c.tick-places.result c.oldest_reply-oldest.result c.loop-place.place (work_of c.args.self.now) (work_of c.loop-place.self) (work_of c.try_write.new.self) (work_of c.leave_if_late.new.self)
          c.args.ask.now.ask c.loop-place.ask.ask c.try_write.new.ask.ask inv.0 c.in_ok-try_write.ensures c.in_ok-leave_if_late.ensures,
      omega (arith, c.loop-place-test.true),
    )

pub returns : goal.returns
returns g c =
    let inv = c.loop-place.invariant in
    ticks_follow g.A.Ask.answers c.args.worker.now.limits c.tick-places.result c.oldest_reply-oldest.result c.loop-place.place (work_of c.args.self.now) (work_of c.loop-place.self) c.args.ask.now.ask c.loop-place.ask.ask
    (omega (arith, inv.1, c.loop-place-test.false)) inv.0
