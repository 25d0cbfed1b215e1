use Rattle.std.proofs.Common.{refl}
use Rattle.std.specs.Prelude.{None}
use Rattle.slab.specs.Slab.{get}
use Rattle.workers.specs.Places.{ServesFirst}
use Rattle.workers.specs.Private.Serving.{IsTurn, work_of}
use Rattle.workers.proofs.StepLemmas.{serves_as}
use Rattle.workers.proofs.ServingLemmas.{first_served, on_ok_then}
use Rattle.workers.proofs.serving.Served.serve_first.Goals as goal

pub returns-in-Some : goal.returns-in-Some
returns-in-Some g c =
    let place = c.in-Some.field-0.now in
    let waiting = c.args.self.now.waiting.items in
    let places = get c.args.self.now.open in
    λ are_open.
    on_ok_then c.serve.result (λ served.
    serves_as g.A.Ask.answers c.args.worker.now.limits (IsTurn place None (places place)) (ServesFirst waiting)
    (λ steps turn. first_served places waiting place steps are_open c.in-Some.ensures.item.3.0 c.in-Some.ensures.lookup turn) (work_of c.args.self.now) (work_of c.serve.new.self) c.args.ask.now.ask c.serve.new.ask.ask
    (served None refl)) c.serve.ensures
