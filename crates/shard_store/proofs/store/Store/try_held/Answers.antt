use Rattle.std.proofs.Common.{◌≡◌, ℕ, ◌*◌, ◌/◌, ◌^◌, ◌≤◌, arith, refl, sym, ap, ◌∙◌, subst}
use Rattle.std.specs.Arc.{arc_value}
use Rattle.map_core.specs.PlainMap.{PlainMap, ask, standing_for}
use Rattle.shard_store.specs.declared.change.Seen.{Seen}
use Rattle.shard_store.specs.Changes.{count}
use Rattle.shard_store.specs.Numbers.{IsPart}
use Rattle.shard_store.specs.Promise.{IsLater}
use Rattle.shard_store.proofs.Promise.{later_then, seen_as, missed_then, answered_by_write, answered_by_read, changes_of_part, part_after}
use Rattle.shard_store.proofs.Shifts.{shifted, shifted_last, shifted_nothing}
use Rattle.shard_store.proofs.LastReads.{halved, none_case, none_here, read_here, some_case}
use Rattle.shard_store.proofs.store.Store.try_held.Goals as goal

pub returns-in-Err-clause-tried : goal.returns-in-Err-clause-tried
returns-in-Err-clause-tried c = let s = c.args.seat.now.me.0.seen in let u = c.read_version.new.seat.me.0.seen in let x = c.store_version.new.seat.me.0.seen in
    let f = c.in-Err.ensures.written in let l : IsLater u s = seen_as s u c.read_version.ensures.free.1 in
    (later_then s u x l f.0, missed_then _ _ _ s u x l f.1)

pub returns-in_default-clause-tried : goal.returns-in_default-clause-tried
returns-in_default-clause-tried c = let s = c.args.seat.now.me.0.seen in let u = c.read_version.new.seat.me.0.seen in let n = c.args.self.now.id.slots in let i = c.args.hold.shard in
    let same = c.read_version.ensures.free.1 in let old : PlainMap = arc_value c.in_ok-version.version in
    let shown : IsPart n i u.log old = subst (λ (x : Seen). IsPart n i x.log old) (sym same) c.in_ok-version.ensures.version in
    let step = c.in_ok-reply.ensures in
    let counted : count n u.log i ≡ c.args.hold.word / 2 = ap (λ (x : Seen). count n x.log i) same ∙ halved c.args.hold.word _ c.requires.held.0.1.1 in (
      (
        answered_by_read n i c.args.op.now s u old c.in_ok-reply.reply c.requires.home.1 (seen_as s u same) shown
            (step.reply ∙ ap (λ (m : PlainMap). (ask m c.args.op.now).reply) c.deref.ensures) (none_case _ _ _ c.in_default.is step.left),
        read_here n i u.log (record { revision = c.args.hold.word / 2; version = c.in_ok-version.version }) counted shown,
      ),
      shifted_nothing u.log c.in_ok-reply.reply _ (none_case _ _ _ c.in_default.is step.left) refl,
    )

pub store_version-requires-clause-version : goal.store_version-requires-clause-version
store_version-requires-clause-version c = let u = c.read_version.new.seat.me.0.seen in let n = c.args.self.now.id.slots in let i = c.args.hold.shard in let old : PlainMap = arc_value c.in_ok-version.version in
    let shown : IsPart n i u.log old = subst (λ (x : Seen). IsPart n i x.log old) (sym c.read_version.ensures.free.1) c.in_ok-version.ensures.version in
    let step = some_case _ _ _ _ c.in-Some.is c.in_ok-reply.ensures.left in
    part_after n i c.args.op.now u old (arc_value c.in-Ok.next) c.requires.home.1 shown (c.in-Ok.ensures.ok ∙ (step.1 ∙ ap (λ (m : PlainMap). (ask m c.args.op.now).map) c.deref.ensures))

pub returns-in-Ok-store_version-clause-tried : goal.returns-in-Ok-store_version-clause-tried
returns-in-Ok-store_version-clause-tried c = let s = c.args.seat.now.me.0.seen in let u = c.read_version.new.seat.me.0.seen in let x = c.store_version.new.seat.me.0.seen in let n = c.args.self.now.id.slots in let i = c.args.hold.shard in
    let same = c.read_version.ensures.free.1 in let old : PlainMap = arc_value c.in_ok-version.version in
    let shown : IsPart n i u.log old = subst (λ (y : Seen). IsPart n i y.log old) (sym same) c.in_ok-version.ensures.version in
    let step = c.in_ok-reply.ensures in let is = step.reply ∙ ap (λ (m : PlainMap). (ask m c.args.op.now).reply) c.deref.ensures in
    let left = some_case _ _ _ _ c.in-Some.is step.left in let written = c.in-Ok-store_version.ensures.written in (
      (
        answered_by_write n i c.args.op.now s u x old c.in_ok-reply.reply c.requires.home.1 (seen_as s u same) shown is left.0 written,
        none_here n i x.log,
      ),
      shifted_last n i c.args.op.now u x c.in_ok-reply.reply _ c.requires.home.1 left.0
          (shifted n i c.args.op.now u old c.in-Some.next c.in_ok-reply.reply (record { before = c.standing-before.result; after = c.standing-after.result }) c.requires.home.1 shown is
          (left.1 ∙ ap (λ (m : PlainMap). (ask m c.args.op.now).map) c.deref.ensures)
          (c.standing-before.ensures ∙ ap (λ (m : PlainMap). standing_for m c.args.op.now) c.deref-2.ensures) c.standing-after.ensures)
          written,
    )

worn_at : (word a : ℕ) → word ≡ 2 * a → word ≤ 2 ^ 63 → 2 ^ 62 ≤ word / 2 → a ≡ 2 ^ 62
worn_at word a e most least = omega arith

pub returns-then-revision-ge-LAST_REVISION-clause-tried : goal.returns-then-revision-ge-LAST_REVISION-clause-tried
returns-then-revision-ge-LAST_REVISION-clause-tried c = let s = c.args.seat.now.me.0.seen in let u = c.read_version.new.seat.me.0.seen in let n = c.args.self.now.id.slots in let i = c.args.hold.shard in
    let same = c.read_version.ensures.free.1 in let old : PlainMap = arc_value c.in_ok-version.version in
    let shown : IsPart n i u.log old = subst (λ (x : Seen). IsPart n i x.log old) (sym same) c.in_ok-version.ensures.version in
    let step = c.in_ok-reply.ensures in let held = c.requires.held in (
      seen_as s u same,
      (
        c.requires.home.1,
        ap (λ (x : Seen). count n x.log i) same ∙ worn_at _ _ held.0.1.1 held.1 c.if-revision-ge-LAST_REVISION.true,
        changes_of_part n i c.args.op.now u.log old c.in_ok-reply.reply c.requires.home.1 shown (step.reply ∙ ap (λ (m : PlainMap). (ask m c.args.op.now).reply) c.deref.ensures)
            (some_case _ _ _ _ c.in-Some.is step.left).0,
      ),
    )
