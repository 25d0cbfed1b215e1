use Rattle.std.proofs.Common.{◌≡◌, ◌+◌, ap, ◌∙◌, List}
use Rattle.std.specs.Prelude.{slice_set}
use Rattle.std.specs.List.{insert}
use Rattle.shared_map.specs.Name.{Name}
use Rattle.shared_map.proofs.Places.{opened, read_same, at_some, inserted}
use Rattle.shared_map.proofs.Levels.{halve_reached}
use Rattle.shared_map.proofs.level.halve_in.Goals as goal

pub returns-in-Some : goal.returns-in-Some
returns-in-Some g c =
    let place = c.args.place in
    let ps = c.args.page.now.slots.items in
    let a = (opened ps place c.requires).around in
    let x = c.index_mut.result.now in
    let kept = c.make_room.ensures.items in
    let set : List (Name × g.row.P.Denot) = slice_set c.make_room.new.self.slots.items place (x.0, c.halve.new.self) in
    let made : c.insert.new.self.items ≡ insert set (place + 1) c.in-Some.half = inserted c.insert.result c.insert.new.self.items set (place + 1) c.in-Some.half c.insert.ensures.items (c.insert.ensures.succeeds c.in_ok-make_room.ensures.ok) in
    let over : insert set (place + 1) c.in-Some.half ≡ insert (slice_set ps place (x.0, c.halve.new.self)) (place + 1) c.in-Some.half = ap (λ (l : List (Name × g.row.P.Denot)). insert (slice_set l place (x.0, c.halve.new.self)) (place + 1) c.in-Some.half) kept in
    halve_reached g.P.Part.marks ps place a x (read_same kept a x c.index_mut.ensures.value) c.halve.new.self c.in-Some.half _ (ap (λ v. v.items) c.note_new.ensures ∙ made ∙ over) (at_some _ _ c.in-Some.is c.in_ok-half.ensures.ok)
