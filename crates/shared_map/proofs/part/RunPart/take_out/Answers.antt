use Rattle.std.proofs.Common.{subst, List}
use Rattle.std.proofs.lemmas.Result.{on_ok_weaker}
use Rattle.shared_map.specs.Name.{Name}
use Rattle.shared_map.specs.Places.{IsTaken, IsFree}
use Rattle.shared_map.proofs.Seats.{taken_without, free_without}
use Rattle.shared_map.proofs.part.RunPart.take_out.Goals as goal

pub returns-in-Taken-clause-ok : goal.returns-in-Taken-clause-ok
returns-in-Taken-clause-ok g c =
    let taken : IsTaken c.args.name.now c.args.self.now c.in-Taken.place = subst (λ (l : List (Name × g.row.V.Denot)). IsTaken c.args.name.now l c.in-Taken.place) c.slots.ensures c.in-Taken.ensures in
    on_ok_weaker c.remove.result (λ made s. taken_without c.args.name.now c.args.self.now s c.in-Taken.place taken c.remove.new.self made) c.remove.ensures.ok

pub returns-in-Free-clause-ok : goal.returns-in-Free-clause-ok
returns-in-Free-clause-ok g c =
    let free : IsFree c.args.name.now c.args.self.now c.in-Free.field-0 = subst (λ (l : List (Name × g.row.V.Denot)). IsFree c.args.name.now l c.in-Free.field-0) c.slots.ensures c.in-Free.ensures in
    λ s. free_without c.args.name.now c.args.self.now s c.in-Free.field-0 free
