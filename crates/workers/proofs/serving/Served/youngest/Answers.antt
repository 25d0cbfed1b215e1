use Rattle.std.proofs.Common.{arith}
use Rattle.slab.specs.Slab.{get}
use Rattle.workers.proofs.HeldReplies.{below_all, below_more, below_none}
use Rattle.workers.proofs.ServingLemmas.{beyond}
use Rattle.workers.proofs.serving.Served.youngest.Goals as goal

pub loop-place-init : goal.loop-place-init
loop-place-init g c = below_none (get c.args.self.now.open) c.args.least c.args.most

pub loop-place-preserved : goal.loop-place-preserved
loop-place-preserved g c =
    below_more (get c.args.self.now.open) c.args.least c.args.most c.loop-place.age c.younger-age.result c.loop-place.place c.loop-place.invariant c.younger-age.ensures

pub returns : goal.returns
returns g c =
    below_all (get c.args.self.now.open) c.args.least c.args.most c.loop-place.age c.loop-place.place c.capacity-places.result (omega (arith, c.loop-place-test.false))
    (λ at far. beyond c.args.self.now.open at (omega (arith, c.capacity-places.ensures.slots, far))) c.loop-place.invariant
