use Rattle.std.proofs.Common.{◌≡◌, ℕ, ◌+◌, ◌-◌, arith, subst}
use Rattle.slab.specs.Slab.{get}
use Rattle.workers.specs.Places.{IsOldest}
use Rattle.workers.proofs.HeldReplies.{oldest_most, oldest_next}
use Rattle.workers.proofs.serving.Served.oldest_reply.Goals as goal

pub loop-left-init : goal.loop-left-init
loop-left-init g c = (0, c.youngest-age.ensures, λ oldest is. is)

pub loop-left-preserved : goal.loop-left-preserved
loop-left-preserved g c =
    let inv = c.loop-left.invariant in
    let places = get c.args.self.now.open in
    let most = c.args.patience.now.reply_ticks in (
      c.loop-left.age + 1,
      c.youngest-age-in-loop-left.ensures,
      λ oldest is.
          inv.2 oldest (oldest_next places most c.loop-left.left (c.loop-left.left - 1) inv.0 c.loop-left.age oldest c.loop-left-test.true (omega (arith, c.loop-left-test.true)) inv.1 is),
    )

pub returns-then-age-most : goal.returns-then-age-most
returns-then-age-most g c =
    let inv = c.loop-left.invariant in
    inv.2 c.loop-left.age (oldest_most (get c.args.self.now.open) c.args.patience.now.reply_ticks c.loop-left.left inv.0 c.loop-left.age c.if-age-most.true inv.1)

pub returns : goal.returns
returns g c =
    let inv = c.loop-left.invariant in
    let none : 0 ≡ c.loop-left.left = omega (arith, c.loop-left-test.false) in
    inv.2 c.loop-left.age (subst (λ (n : ℕ). IsOldest (get c.args.self.now.open) n inv.0 c.args.patience.now.reply_ticks c.loop-left.age) none inv.1)
