use Rattle.std.proofs.Common.{arith}
use Rattle.slab.specs.Slab.{get}
use Rattle.workers.specs.Private.Serving.{work_of}
use Rattle.workers.proofs.HeldReplies.{timely_none, timely_young}
use Rattle.workers.proofs.ServingLemmas.{expires, gives_up, on_ok_then, spares}
use Rattle.workers.proofs.serving.Served.leave_if_late.Goals as goal

pub returns-in-Some : goal.returns-in-Some
returns-in-Some g c =
    let why = c.in-Some.ensures.some in
    let close = c.close.ensures in
    on_ok_then c.close.result (λ noted.
    gives_up c.args.worker.now.limits c.args.oldest c.args.place c.in-Some.error (work_of c.args.self.now) (work_of c.close.new.self) why.0 why.1 why.2 why.3 close.left close.others close.waits noted) close.noted

pub returns-in_default-age_held : goal.returns-in_default-age_held
returns-in_default-age_held g c =
    spares c.args.worker.now.limits c.args.oldest c.args.place (work_of c.args.self.now) c.in_default.ensures.none
    (timely_none c.args.oldest (get c.args.self.now.open c.args.place) c.in_default-age_held.ensures.none)

pub returns-then-age-oldest : goal.returns-then-age-oldest
returns-then-age-oldest g c =
    spares c.args.worker.now.limits c.args.oldest c.args.place (work_of c.args.self.now) c.in_default.ensures.none
    (timely_young c.args.oldest c.in-Some-age_held.age (get c.args.self.now.open c.args.place) c.in-Some-age_held.ensures.some c.if-age-oldest.true)

pub returns : goal.returns
returns g c =
    let close = c.close-2.ensures in
    on_ok_then c.close-2.result (λ noted.
    expires c.args.worker.now.limits c.args.oldest c.args.place c.in-Some-age_held.age (work_of c.args.self.now) (work_of c.close-2.new.self) c.in-Some-age_held.ensures.some
    (omega (arith, c.if-age-oldest.false)) close.left close.others close.waits noted) close.noted
