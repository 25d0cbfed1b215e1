use Rattle.std.proofs.Common.{◌≡◌, ℕ, List, ◌+◌, ◌≤◌, length, arith, sym, ap, subst}
use Rattle.map_core.specs.declared.op.Op.TheVariants.{FetchAll}
use Rattle.shard_store.specs.Promise.{IsRefused}
use Rattle.shard_store.specs.Private.Readings.{AreConfirmed, IsMovement}
use Rattle.shard_store.proofs.Promise.{later_then, fetch_has_no_home, refused_at, refused_since, error_passed}
use Rattle.shard_store.proofs.LastReads.{reads_later}
use Rattle.shard_store.proofs.Readings.{snapshot, snapshot_since, moved, moved_since, moved_not_alone, longer}
use Rattle.shard_store.proofs.store.Store.fetch_parts.Goals as goal

pub returns-in-None-clause-ready : goal.returns-in-None-clause-ready
returns-in-None-clause-ready c = let looked = c.confirm_all.ensures.looked in (looked.0, reads_later _ c.collect_all.new.desk.seat.me.0.seen c.confirm_all.new.seat.me.0.seen _ looked.1 c.collect_all.ensures.ready.1)

pub returns-in-None-clause-parts : goal.returns-in-None-clause-parts
returns-in-None-clause-parts c = let t = c.loop.desk.seat.me.0.seen in let u = c.collect_all.new.desk.seat.me.0.seen in let v = c.confirm_all.new.seat.me.0.seen in let n = c.args.self.now.id.slots in let r = c.in_ok-read.ensures.read in let read = c.in_ok-read.read in
    snapshot_since n c.args.desk.now.seat.me.0.seen t v read.revisions.items read.versions.items c.loop.invariant.later
    (snapshot n t u v read.revisions.items read.versions.items r.0 c.confirm_all.ensures.looked.1 r.1 r.2 (subst (λ (l : List ℕ). AreConfirmed n u.log l) c.as_slice.ensures.value c.in-None.ensures.found))

pub returns-in_err-read-clause-parts : goal.returns-in_err-read-clause-parts
returns-in_err-read-clause-parts c = let s = c.args.desk.now.seat.me.0.seen in let u = c.collect_all.new.desk.seat.me.0.seen in let e = c.in_err-read.field-0.0 in
    error_passed c.from_residual.result e _ _ c.from_residual.ensures.1 (refused_at c.args.self.now FetchAll s u e (refused_since _ FetchAll s c.loop.desk.seat.me.0.seen u e c.loop.invariant.later c.in_err-read.ensures.read))

pub loop-preserved : goal.loop-preserved
loop-preserved c = let s = c.args.desk.now.seat.me.0.seen in let t = c.loop.desk.seat.me.0.seen in let u = c.collect_all.new.desk.seat.me.0.seen in let v = c.confirm_all.new.seat.me.0.seen in
    let i = c.loop.invariant in let g = c.in-Some.movement in let n = c.args.self.now.id.slots in let r = c.in_ok-read.ensures.read in let read = c.in_ok-read.read in let looked = c.confirm_all.ensures.looked in
    let m = moved n t u v read.revisions.items read.versions.items g r.0 looked.1 r.1 r.2 (subst (λ (l : List ℕ). IsMovement n u.log v.log l g) c.as_slice.ensures.value c.in-Some.ensures.found) in
    let more : length t.log + 1 ≤ length v.log = longer n g.shard g.first g.second t v m.0 m.2 in let before = i.more in record {
      ready = (looked.0, reads_later n u v _ looked.1 c.collect_all.ensures.ready.1);
      later = later_then s t v i.later m.0;
      moved = λ _. (m.1, moved_since _ g.shard g.first g.second s t v i.later m.2);
      more = omega arith;
    }

pub returns-clause-parts : goal.returns-clause-parts
returns-clause-parts c = let s = c.args.desk.now.seat.me.0.seen in let t = c.loop.desk.seat.me.0.seen in let i = c.loop.invariant in let g = c.loop.last in let end = c.loop.auto.counter-end in let done = c.loop-test.false in let some = c.self.invariant.1 in
    let n = c.args.self.now.id.slots in let m = i.moved (omega (arith, end, done, some)) in let more = i.more in let rounds : c.self.inside.rounds ≡ c.args.self.now.rounds = ap (λ s. s.rounds) c.self.view_is in
    subst (IsRefused c.args.self.now FetchAll s t) (sym c.into_error.ensures)
    (i.later, moved_not_alone n g.shard g.first g.second s t i.later m.1, fetch_has_no_home n, m.0, m.1, omega (arith, end, done, more, rounds))
