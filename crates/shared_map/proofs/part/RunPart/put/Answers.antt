use Rattle.std.proofs.Common.{subst, ap, List, not}
use Rattle.std.specs.Prelude.{is_some}
use Rattle.shared_map.specs.Name.{Name}
use Rattle.shared_map.specs.Places.{IsTaken, IsFree}
use Rattle.shared_map.proofs.Seats.{taken_put, taken_some, free_put, free_find}
use Rattle.shared_map.proofs.part.RunPart.put.Goals as goal

pub returns-in_ok-set-in-Taken-clause-ok : goal.returns-in_ok-set-in-Taken-clause-ok
returns-in_ok-set-in-Taken-clause-ok g c =
    let taken : IsTaken c.args.name c.args.self.now c.in-Taken.place = subst (λ (l : List (Name × g.row.V.Denot)). IsTaken c.args.name l c.in-Taken.place) c.slots.ensures c.in-Taken.ensures in
    λ s. taken_put c.args.name c.args.self.now s c.in-Taken.place taken c.args.value c.set.new.self (c.in_ok-set-in-Taken.ensures.ok taken.around)

pub returns-in_ok-set-in-Taken-clause-is_new : goal.returns-in_ok-set-in-Taken-clause-is_new
returns-in_ok-set-in-Taken-clause-is_new g c =
    let taken : IsTaken c.args.name c.args.self.now c.in-Taken.place = subst (λ (l : List (Name × g.row.V.Denot)). IsTaken c.args.name l c.in-Taken.place) c.slots.ensures c.in-Taken.ensures in
    λ s. ap not (taken_some c.args.name c.args.self.now s c.in-Taken.place taken)

pub returns-in_ok-insert-in-Free-clause-ok : goal.returns-in_ok-insert-in-Free-clause-ok
returns-in_ok-insert-in-Free-clause-ok g c =
    let free : IsFree c.args.name c.args.self.now c.in-Free.place = subst (λ (l : List (Name × g.row.V.Denot)). IsFree c.args.name l c.in-Free.place) c.slots.ensures c.in-Free.ensures in
    λ s. free_put c.args.name c.args.self.now s c.in-Free.place free c.args.value c.insert.new.self c.in_ok-insert-in-Free.ensures.ok

pub returns-in_ok-insert-in-Free-clause-is_new : goal.returns-in_ok-insert-in-Free-clause-is_new
returns-in_ok-insert-in-Free-clause-is_new g c =
    let free : IsFree c.args.name c.args.self.now c.in-Free.place = subst (λ (l : List (Name × g.row.V.Denot)). IsFree c.args.name l c.in-Free.place) c.slots.ensures c.in-Free.ensures in
    λ s. ap (λ o. not (is_some o)) (free_find c.args.name c.args.self.now s c.in-Free.place free)
