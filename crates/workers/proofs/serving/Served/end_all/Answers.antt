use Rattle.std.proofs.Common.{refl, ◌∙◌, arith}
use Rattle.std.specs.List.{AllByRecursion}
use Rattle.slab.specs.Slab.{get}
use Rattle.workers.proofs.StepLemmas.{all_stay, serves_none}
use Rattle.workers.proofs.ServingLemmas.{all_free, beyond, free_below, last_then}
use Rattle.workers.specs.Places.{IsLast}
use Rattle.workers.specs.Private.Serving.{work_of}
use Rattle.workers.proofs.serving.Served.end_all.Goals as goal

pub loop-place-preserved : goal.loop-place-preserved
loop-place-preserved g c =
    let inv = c.loop-place.invariant in (
      last_then g.A.Ask.answers c.args.worker.now.limits (work_of c.args.self.now) (work_of c.loop-place.self) (work_of c.end.new.self) c.args.ask.now.ask c.loop-place.ask.ask c.end.new.ask.ask
          inv.0 c.in_ok-end.ensures.served,
      free_below (get c.loop-place.self.open) (get c.end.new.self.open) c.loop-place.place inv.1 c.in_ok-end.ensures.left c.end.ensures.others,
      λ other far. c.end.ensures.others other (λ e. absurd (omega (arith, far, e, c.loop-place-test.true))) ∙ inv.2 other far,
    )

pub loop-place-init : goal.loop-place-init
loop-place-init g c = (
  serves_none g.A.Ask.answers c.args.worker.now.limits (AllByRecursion IsLast) (work_of c.args.self.now) (work_of c.args.self.now) c.args.ask.now.ask c.args.ask.now.ask
      tt (all_stay (get c.args.self.now.open)) refl refl refl,
  λ other below. absurd (omega (arith, below)),
  λ other far. beyond c.args.self.now.open other (omega (arith, c.capacity-places.ensures.slots, far)),
)

pub returns-clause-left : goal.returns-clause-left
returns-clause-left g c =
    let inv = c.loop-place.invariant in
    all_free (get c.loop-place.self.open) c.loop-place.place c.capacity-places.result (omega (arith, c.loop-place-test.false)) inv.1 inv.2
