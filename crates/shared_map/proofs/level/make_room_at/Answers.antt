use Rattle.std.proofs.Common.{◌≡◌, inl, inr, ap, ◌∙◌, is_ok, List}
use Rattle.std.specs.Prelude.{slice_set}
use Rattle.std.specs.Vec.{with_item}
use Rattle.shared_map.specs.Name.{Name}
use Rattle.shared_map.specs.Marks.{marks_of}
use Rattle.shared_map.proofs.Places.{read_same}
use Rattle.shared_map.proofs.Same.{same_is, same_trans}
use Rattle.shared_map.proofs.Levels.{same_reached}
use Rattle.shared_map.proofs.level.make_room_at.Goals as goal

pub returns-in_err-make_room : goal.returns-in_err-make_room
returns-in_err-make_room g c =
    let page = c.in_ok-page.page.now in
    let kept : page.slots.items ≡ c.args.parts.now = elim c.in_ok-page.ensures.value [ inl e ↦ ap (λ p. p.slots.items) e | inr e ↦ e ] ∙ c.parts.view_is in
    let x = c.index_mut.result.now in
    let set = ap (λ p. p.slots.items) (c.make_mut.follows.holds (record { slots = with_item page.slots c.args.place (x.0, c.make_room.new.self); hints = page.hints }) (ap is_ok c.in_ok-page.was)) ∙ ap (λ (l : List (Name × g.row.P.Denot)). slice_set l c.args.place (x.0, c.make_room.new.self)) kept in
    same_reached g.P.Part.marks c.args.parts.now c.args.place c.requires.0 x (read_same kept c.requires.0 x c.index_mut.ensures.value) c.make_room.new.self _ set c.make_room.ensures

pub returns : goal.returns
returns g c =
    let f = g.P.Part.marks in
    let page = c.in_ok-page.page.now in
    let kept : page.slots.items ≡ c.args.parts.now = elim c.in_ok-page.ensures.value [ inl e ↦ ap (λ p. p.slots.items) e | inr e ↦ e ] ∙ c.parts.view_is in
    let x = c.index_mut.result.now in
    let held = ap (λ p. p.slots.items) (c.make_mut.follows.holds c.halve_in.new.page (ap is_ok c.in_ok-page.was)) in
    let set = ap (λ (l : List (Name × g.row.P.Denot)). slice_set l c.args.place (x.0, c.make_room.new.self)) kept in
    let there = same_reached f c.args.parts.now c.args.place c.requires.0 x (read_same kept c.requires.0 x c.index_mut.ensures.value) c.make_room.new.self _ set c.make_room.ensures in
    same_trans (same_is (ap (marks_of f) held)) (same_trans c.halve_in.ensures there)
