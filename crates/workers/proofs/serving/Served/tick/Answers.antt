use Rattle.std.proofs.Common.{◌∙◌, arith, refl}
use Rattle.slab.specs.Slab.{get}
use Rattle.workers.proofs.ServingLemmas.{all_ticked, beyond, ticked_below}
use Rattle.workers.proofs.serving.Served.tick.Goals as goal

pub loop-place-init : goal.loop-place-init
loop-place-init g c = (λ other below. absurd (omega (arith, below)), λ other far. refl, refl, refl)

pub loop-place-preserved : goal.loop-place-preserved
loop-place-preserved g c =
    let inv = c.loop-place.invariant in
    let at = c.tick_at.ensures in (
      ticked_below (get c.args.self.now.open) (get c.loop-place.self.open) (get c.tick_at.new.self.open) c.loop-place.place inv.0 inv.1 at.ticked at.others,
      λ other far. at.others other (λ e. absurd (omega (arith, far, e))) ∙ inv.1 other (omega (arith, far)),
      at.waiting ∙ inv.2,
      at.ends ∙ inv.3,
    )

pub returns-clause-ticked : goal.returns-clause-ticked
returns-clause-ticked g c =
    let inv = c.loop-place.invariant in
    all_ticked (get c.args.self.now.open) (get c.loop-place.self.open) c.loop-place.place c.capacity-places.result (omega (arith, c.loop-place-test.false)) inv.0 inv.1
    (λ other far. beyond c.args.self.now.open other (omega (arith, c.capacity-places.ensures.slots, far)))

pub returns-clause-beyond : goal.returns-clause-beyond
returns-clause-beyond g c = λ place far. beyond c.args.self.now.open place (omega (arith, c.capacity-places.ensures.slots, far))
