use Rattle.map_core.specs.declared.op.Op.TheVariants.{FetchAll}
use Rattle.map_core.specs.declared.reply.AskError.TheVariants.{Memory}
use Rattle.std.proofs.Common.{◌+◌, arith, sym, ap, ◌∙◌, subst}
use Rattle.std.specs.Arc.{arc_value}
use Rattle.shard_store.specs.declared.change.Seen.{Seen}
use Rattle.shard_store.specs.Changes.{count}
use Rattle.shard_store.specs.Numbers.{IsPart}
use Rattle.shard_store.specs.Promise.{IsRefusedAt}
use Rattle.shard_store.proofs.Promise.{later_then, later_same, missed_then, error_passed, at_each, fetch_has_no_home}
use Rattle.shard_store.proofs.LastReads.{halved}
use Rattle.shard_store.proofs.store.Store.collect_held.Goals as goal

pub returns-in-Ok-clause-read : goal.returns-in-Ok-clause-read
returns-in-Ok-clause-read c = let t = c.try_hold.new.seat.me.0.seen in let same = c.read_version.ensures.free.1 in let n = c.args.self.now.id.slots in (
  later_same c.args.seat.now.me.0.seen t c.read_version.new.seat.me.0.seen (later_then c.args.seat.now.me.0.seen c.loop.seat.me.0.seen t c.loop.invariant.looked.1 c.try_hold.ensures.later) same,
  (
    ap (λ (x : Seen). count n x.log c.args.shard) same ∙ halved c.in-Ok.found _ c.in-Ok.ensures.found.0.1.1,
    subst (λ (x : Seen). IsPart n c.args.shard x.log (arc_value c.in_ok-version-in-Ok.version)) (sym same) c.in_ok-version-in-Ok.ensures.version,
  ),
)

pub returns-in_err-version-in-Ok-clause-read : goal.returns-in_err-version-in-Ok-clause-read
returns-in_err-version-in-Ok-clause-read c = let s = c.args.seat.now.me.0.seen in let t = c.try_hold.new.seat.me.0.seen in
    error_passed c.from_residual.result Memory _ _ c.from_residual.ensures.1
    (later_same s t c.read_version.new.seat.me.0.seen (later_then s c.loop.seat.me.0.seen t c.loop.invariant.looked.1 c.try_hold.ensures.later) c.read_version.ensures.free.1)

pub loop-preserved : goal.loop-preserved
loop-preserved c = let i = c.loop.invariant in let s = c.args.seat.now.me.0.seen in let t = c.loop.seat.me.0.seen in let u = c.try_hold.new.seat.me.0.seen in let found = c.in-Err.ensures.found in record {
  failed = ap (λ k. k + 1) i.failed;
  looked = (found.0, later_then s t u i.looked.1 c.try_hold.ensures.later);
  missed = λ _. missed_then _ _ _ s t u i.looked.1 found.1;
}

pub returns-clause-read : goal.returns-clause-read
returns-clause-read c = let i = c.loop.invariant in let end = c.loop.auto.counter-end in let done = c.loop-test.false in let some = c.self.invariant.2 in let n = c.args.self.now.id.slots in
    let m = i.missed (omega (arith, end, done, some)) in
    subst (IsRefusedAt n FetchAll c.args.seat.now.me.0.seen c.loop.seat.me.0.seen) (sym c.given_up.ensures) (i.looked.1, m.0, at_each _ c.args.shard FetchAll (fetch_has_no_home n) c.requires.shard, m.1)
