use Rattle.std.proofs.Common.{◌≡◌, length, Ok, Err, refl, ap, ◌∙◌, arith}
use Rattle.std.proofs.lemmas.Result.{err_from_is_err_and}
use Rattle.wire.specs.declared.error.FrontError.TheVariants.{WriteFault}
use Rattle.frame_front.proofs.LiveLemmas.{AnswersFrame-smaller}
use Rattle.frame_front.proofs.SessionLemmas.{Gathering-none, Gathering-then, Due-then, Due-still, Due-sent, Round-sent, Round-unsent, stopped_round, fewer_than_bytes}
use Rattle.frame_front.proofs.session.answer_all.Goals as goal

pub loop-live-init : goal.loop-live-init
loop-live-init g c = (Gathering-none g.A.Ask.answers _ c.args.live.now c.args.ask.now c.requires.nothing_waits, refl)

pub returns-in_err-write-in-Answered-true-clause-round : goal.returns-in_err-write-in-Answered-true-clause-round
returns-in_err-write-in-Answered-true-clause-round g c =
    let failed = err_from_is_err_and c.from_residual.result c.from_residual.ensures.1 in
    let is_fault : c.from_residual.result ≡ Err WriteFault = failed.1 ∙ ap Err (failed.2 ∙ c.in_err-write-in-Answered-true.ensures.fault.0) in
    let due = Due-then g.A.Ask.answers _ c.args.live.now c.args.ask.now _ _ _ _ _ _ c.loop-live.invariant.0 c.in-Answered-true.field-0 c.in-Answered-true.ensures in
    let same = c.in_err-write-in-Answered-true.ensures.same in
    rw is_fault (Round-unsent g.A.Ask.answers _ c.args.live.now c.args.ask.now _ _ _ _ _ due c.write.new.self c.in_err-write-in-Answered-true.ensures.front same.1)

pub overflow_add-count : goal.overflow_add-count
overflow_add-count g c =
    let so_far = c.loop-live.invariant.0 in
    omega (arith, so_far.counted, fewer_than_bytes so_far.payloads c.loop-live.live.kept, ap length so_far.serves.whole, c.room-room.ensures.kept)

pub loop-live-smaller-in-Answered-true : goal.loop-live-smaller-in-Answered-true
loop-live-smaller-in-Answered-true g c =
    omega (arith, AnswersFrame-smaller g.A.Ask.answers _ _ _ _ _ c.in-Answered-true.ensures, ap length c.in_ok-write-in-Answered-true.ensures.same.0)

pub loop-live-preserved-in-Answered-true : goal.loop-live-preserved-in-Answered-true
loop-live-preserved-in-Answered-true g c =
    let due = Due-then g.A.Ask.answers _ c.args.live.now c.args.ask.now _ _ _ _ _ _ c.loop-live.invariant.0 c.in-Answered-true.field-0 c.in-Answered-true.ensures in
    let wrote = c.in_ok-write-in-Answered-true.ensures in
    (Due-sent g.A.Ask.answers _ c.args.live.now c.args.ask.now _ _ _ _ _ due c.write.new.self wrote.ok wrote.sent, wrote.quiet ∙ c.loop-live.invariant.1)

pub overflow_add-count-in-Answered-false : goal.overflow_add-count-in-Answered-false
overflow_add-count-in-Answered-false g c =
    let so_far = c.loop-live.invariant.0 in
    omega (arith, so_far.counted, fewer_than_bytes so_far.payloads c.loop-live.live.kept, ap length so_far.serves.whole, c.room-room.ensures.kept)

pub loop-live-smaller-in-Answered-false : goal.loop-live-smaller-in-Answered-false
loop-live-smaller-in-Answered-false g c =
    omega (arith, AnswersFrame-smaller g.A.Ask.answers _ _ _ _ _ c.in-Answered-false.ensures)

pub loop-live-preserved-in-Answered-false : goal.loop-live-preserved-in-Answered-false
loop-live-preserved-in-Answered-false g c =
    (Gathering-then g.A.Ask.answers _ c.args.live.now c.args.ask.now _ _ _ _ _ _ c.loop-live.invariant.0 c.in-Answered-false.field-0 c.in-Answered-false.ensures c.in-Answered-false.field-0-test, c.loop-live.invariant.1)

pub returns-in_err-write-in-Stops-clause-round : goal.returns-in_err-write-in-Stops-clause-round
returns-in_err-write-in-Stops-clause-round g c =
    let failed = err_from_is_err_and c.from_residual-in_err-write-in-Stops.result c.from_residual-in_err-write-in-Stops.ensures.1 in
    let is_fault : c.from_residual-in_err-write-in-Stops.result ≡ Err WriteFault = failed.1 ∙ ap Err (failed.2 ∙ c.in_err-write-in-Stops.ensures.fault.0) in
    let due = Due-still g.A.Ask.answers _ c.args.live.now c.args.ask.now _ c.loop-live.live c.step.new.self c.loop-live.ask c.step.new.ask _ c.loop-live.invariant.0 c.in-Stops.ensures.0 in
    rw is_fault (Round-unsent g.A.Ask.answers _ c.args.live.now c.args.ask.now _ _ _ _ _ due c.write-in-Stops.new.self c.in_err-write-in-Stops.ensures.front c.in_err-write-in-Stops.ensures.same.1)

pub loop-live-preserved : goal.loop-live-preserved
loop-live-preserved g c =
    let due = Due-still g.A.Ask.answers _ c.args.live.now c.args.ask.now _ c.loop-live.live c.step.new.self c.loop-live.ask c.step.new.ask _ c.loop-live.invariant.0 c.in-Stops.ensures.0 in
    let wrote = c.in_ok-write-in-Stops.ensures in
    (Due-sent g.A.Ask.answers _ c.args.live.now c.args.ask.now _ _ _ _ _ due c.write-in-Stops.new.self wrote.ok wrote.sent, wrote.quiet ∙ c.loop-live.invariant.1)

pub returns-in-Ok-Read-clause-round : goal.returns-in-Ok-Read-clause-round
returns-in-Ok-Read-clause-round g c =
    let due = Due-still g.A.Ask.answers _ c.args.live.now c.args.ask.now _ c.loop-live.live c.step.new.self c.loop-live.ask c.step.new.ask _ c.loop-live.invariant.0 c.in-Stops.ensures.0 in
    let wrote = c.in_ok-write-in-Stops.ensures in
    let read = rw c.in-Ok-Read.is at c.in-Ok-Read.field-0-is in
    let stops = rw (c.in-Ok-Read.is, read) at c.in-Stops.ensures.1 in
    Round-sent g.A.Ask.answers _ c.args.live.now c.args.ask.now _ _ _ _ _ due (Ok c.loop-live.count) c.write-in-Stops.new.self wrote.ok wrote.sent (due.counted, refl, stops.0) refl

pub returns-in-Err-clause-round : goal.returns-in-Err-clause-round
returns-in-Err-clause-round g c =
    let due = Due-still g.A.Ask.answers _ c.args.live.now c.args.ask.now _ c.loop-live.live c.step.new.self c.loop-live.ask c.step.new.ask _ c.loop-live.invariant.0 c.in-Stops.ensures.0 in
    let wrote = c.in_ok-write-in-Stops.ensures in
    let stops = rw c.in-Err.is at c.in-Stops.ensures.1 in
    stopped_round g.A.Ask.answers _ c.args.live.now c.args.ask.now _ _ _ _ _ due c.in-Err.fault c.write-in-Stops.new.self wrote.ok wrote.sent stops
