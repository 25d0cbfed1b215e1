use Rattle.std.proofs.Common.{arith}
use Rattle.slab.specs.Slab.{get}
use Rattle.workers.proofs.HeldReplies.{younger_below, younger_found, younger_none}
use Rattle.workers.proofs.serving.Served.younger.Goals as goal

pub returns-in_default : goal.returns-in_default
returns-in_default g c = younger_none (get c.args.self.now.open c.args.place) c.args.least c.args.before c.in_default.ensures.none

pub returns-then-age-least : goal.returns-then-age-least
returns-then-age-least g c =
    younger_below (get c.args.self.now.open c.args.place) c.args.least c.args.before c.in-Some.age c.in-Some.ensures.some c.if-age-least.true

pub returns : goal.returns
returns g c =
    younger_found (get c.args.self.now.open c.args.place) c.args.least c.args.before c.in-Some.age c.min.result c.in-Some.ensures.some
    (omega (arith, c.if-age-least.false)) c.min.ensures
