use Rattle.std.proofs.Common.{◌≡◌, ◌+◌, arith, refl, sym, ap, ◌∙◌, subst}
use Rattle.std.specs.Arc.{arc_value}
use Rattle.map_core.specs.declared.op.Op.{Op}
use Rattle.map_core.specs.PlainMap.{PlainMap, ask}
use Rattle.map_core.specs.Reply.{is_change}
use Rattle.map_core.proofs.Asks.{get_changes_nothing}
use Rattle.shard_store.specs.declared.desk.Desk.{Desk}
use Rattle.shard_store.specs.declared.one_shard.Attempt.{Attempt}
use Rattle.shard_store.specs.Promise.{IsLater, IsRefusedAt}
use Rattle.shard_store.specs.Private.Desk.{IsReady}
use Rattle.shard_store.specs.Private.Seat.{Tried}
use Rattle.shard_store.proofs.Promise.{answered_by_read, answered_since, at_home, error_passed, later_self, later_then, missed_then, refused_since}
use Rattle.shard_store.specs.Tally.{tallied}
use Rattle.shard_store.proofs.Shifts.{counts_error, counts_nothing, counts_shift}
use Rattle.shard_store.proofs.LastReads.{none_here, reads_answered, reads_later, reads_refused}
use Rattle.shard_store.proofs.store.Store.ask_name.Goals.{in-Get+in_default-recall+in_ok-make_room, in_default}
use Rattle.shard_store.proofs.store.Store.ask_name.Goals as goal

-- a get, by what was read last
pub returns-in-Some-clause-answer : goal.returns-in-Some-clause-answer
returns-in-Some-clause-answer c =
    let part : PlainMap = arc_value c.in-Some.last.now.version in
    let reply = c.in_ok-get.field-0 in
    let is : reply ≡ (ask part c.args.op.now).reply =
    c.in_ok-get.ensures ∙ ap (λ (op : Op). (ask c.deref.result.now op).reply) (sym c.in-Get.is) ∙ ap (λ (m : PlainMap). (ask m c.args.op.now).reply) c.deref.ensures in
    answered_by_read c.args.self.now.id.slots c.args.shard c.args.op.now c.args.desk.now.seat.me.0.seen c.recall.new.seat.me.0.seen part reply c.requires.home.1 c.recall.ensures.looked.1 c.in-Some.ensures.read.1
    is (ap is_change is ∙ sym (get_changes_nothing part c.args.op.now c.in-Get.domain c.in-Get.is))

pub returns-in-Some-clause-counted : goal.returns-in-Some-clause-counted
returns-in-Some-clause-counted c =
    let part : PlainMap = arc_value c.in-Some.last.now.version in
    let reply = c.in_ok-get.field-0 in
    let is : reply ≡ (ask part c.args.op.now).reply =
    c.in_ok-get.ensures ∙ ap (λ (op : Op). (ask c.deref.result.now op).reply) (sym c.in-Get.is) ∙ ap (λ (m : PlainMap). (ask m c.args.op.now).reply) c.deref.ensures in
    counts_nothing _ reply _ (ap is_change is ∙ sym (get_changes_nothing part c.args.op.now c.in-Get.domain c.in-Get.is))

-- before the first try
pub loop-init : goal.loop-init
loop-init c = let n = c.args.self.now.id.slots in let s = c.args.desk.now.seat.me.0.seen in
    let begun : IsReady c.args.self.now.id c.match-op.desk × IsLater c.match-op.desk.seat.me.0.seen s = elim c.match-op.branch [
      | in-Get+in_default-recall+in_ok-make_room w ↦ subst (λ (d : Desk). IsReady c.args.self.now.id d × IsLater d.seat.me.0.seen s) (sym w.desk-is)
          ((w.recall.ensures.looked.0, w.make_room.ensures n w.recall.new.seat.me.0.seen.log w.recall.ensures.told), w.recall.ensures.looked.1)
      | in_default w ↦ subst (λ (d : Desk). IsReady c.args.self.now.id d × IsLater d.seat.me.0.seen s) (sym w.desk-is)
          ((c.requires.ready.0, w.keep.ensures n s.log c.requires.ready.1 (none_here n c.args.shard s.log)), later_self s)
    ] in record {
      failed = refl;
      ready = begun.0;
      later = begun.1;
      missed = λ some. absurd (omega arith);
      tally = refl;
    }

pub returns-in_err-reply-clause-ready : goal.returns-in_err-reply-clause-ready
returns-in_err-reply-clause-ready c =
    (c.try_once.ensures.free, reads_refused _ c.args.op.now c.loop.desk.seat.me.0.seen c.try_once.new.seat.me.0.seen c.in_err-reply.field-0.0 _ c.in_err-reply.ensures.tried c.loop.invariant.ready.1)

pub returns-in_err-reply-clause-answer : goal.returns-in_err-reply-clause-answer
returns-in_err-reply-clause-answer c = let e = c.in_err-reply.field-0.0 in
    error_passed c.from_residual-in_err-reply.result e _ _ c.from_residual-in_err-reply.ensures.1
    (refused_since _ c.args.op.now c.args.desk.now.seat.me.0.seen c.loop.desk.seat.me.0.seen c.try_once.new.seat.me.0.seen e c.loop.invariant.later c.in_err-reply.ensures.tried)

pub returns-in_err-reply-clause-counted : goal.returns-in_err-reply-clause-counted
returns-in_err-reply-clause-counted c = counts_error c.from_residual-in_err-reply.result c.in_err-reply.field-0.0 _ _ _ c.from_residual-in_err-reply.ensures.1 c.loop.invariant.tally

pub returns-in-Replied-clause-ready : goal.returns-in-Replied-clause-ready
returns-in-Replied-clause-ready c = let n = c.args.self.now.id.slots in let t = c.loop.desk.seat.me.0.seen in let u = c.try_once.new.seat.me.0.seen in
    let tried = subst (λ (a : Attempt). Tried n c.args.shard c.args.op.now t u a) c.in-Replied.is c.in_ok-reply.ensures.tried in
    (c.try_once.ensures.free, c.keep-in-Replied.ensures n u.log (reads_answered n c.args.op.now t u c.in-Replied.reply _ tried.0.0 c.loop.invariant.ready.1) tried.0.1)

pub returns-in-Replied-clause-answer : goal.returns-in-Replied-clause-answer
returns-in-Replied-clause-answer c = let t = c.loop.desk.seat.me.0.seen in let u = c.try_once.new.seat.me.0.seen in
    let tried = subst (λ (a : Attempt). Tried c.args.self.now.id.slots c.args.shard c.args.op.now t u a) c.in-Replied.is c.in_ok-reply.ensures.tried in
    answered_since c.args.op.now c.args.desk.now.seat.me.0.seen t u c.in-Replied.reply c.loop.invariant.later tried.0.0

pub returns-in-Replied-clause-counted : goal.returns-in-Replied-clause-counted
returns-in-Replied-clause-counted c = let t = c.loop.desk.seat.me.0.seen in let u = c.try_once.new.seat.me.0.seen in let shift = c.in-Replied.shift in
    let tried = subst (λ (a : Attempt). Tried c.args.self.now.id.slots c.args.shard c.args.op.now t u a) c.in-Replied.is c.in_ok-reply.ensures.tried in
    counts_shift u.log c.in-Replied.reply shift _ _ tried.1 (c.counted.ensures ∙ ap (tallied shift.before shift.after) c.loop.invariant.tally)

pub loop-preserved : goal.loop-preserved
loop-preserved c = let s = c.args.desk.now.seat.me.0.seen in let t = c.loop.desk.seat.me.0.seen in let u = c.try_once.new.seat.me.0.seen in let i = c.loop.invariant in
    let f = subst (λ (a : Attempt). Tried c.args.self.now.id.slots c.args.shard c.args.op.now t u a) c.in-Blocked.is c.in_ok-reply.ensures.tried in record {
      failed = ap (λ k. k + 1) i.failed;
      ready = (c.try_once.ensures.free, reads_later _ t u _ f.0 i.ready.1);
      later = later_then s t u i.later f.0;
      missed = λ _. missed_then _ _ _ s t u i.later f.1;
      tally = i.tally;
    }

pub returns-clause-answer : goal.returns-clause-answer
returns-clause-answer c = let i = c.loop.invariant in let end = c.loop.auto.counter-end in let done = c.loop-test.false in let some = c.self.invariant.2 in
    let m = i.missed (omega (arith, end, done, some)) in
    subst (IsRefusedAt c.args.self.now.id.slots c.args.op.now c.args.desk.now.seat.me.0.seen c.loop.desk.seat.me.0.seen) (sym c.given_up.ensures)
    (i.later, m.0, at_home _ c.args.shard c.args.op.now c.requires.home.1, m.1)

pub returns-clause-counted : goal.returns-clause-counted
returns-clause-counted c = c.loop.invariant.tally
