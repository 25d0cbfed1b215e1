use Rattle.std.proofs.Common.{◌≡◌, inl, inr, ap, sym, ◌∙◌, is_ok, List, []}
use Rattle.std.specs.Prelude.{slice_set}
use Rattle.std.specs.List.{remove}
use Rattle.std.specs.Arc.{arc_value}
use Rattle.std.specs.Vec.{with_item}
use Rattle.shared_map.specs.declared.run.Run.TheInside.{Inside}
use Rattle.shared_map.specs.Name.{Name}
use Rattle.shared_map.proofs.Places.{read_same, read_set}
use Rattle.shared_map.proofs.Levels.{take_reached, drop_reached}
use Rattle.shared_map.proofs.level.take_at.Goals.{then-is_empty, else-is_empty}
use Rattle.shared_map.proofs.level.take_at.Goals as goal

pub returns-clause-ok : goal.returns-clause-ok
returns-clause-ok g c =
    let f = g.P.Part.marks in
    let page = c.in_ok-page.page.now in
    let kept : page.slots.items ≡ c.args.parts.now = elim c.in_ok-page.ensures.value [ inl e ↦ ap (λ p. p.slots.items) e | inr e ↦ e ] ∙ c.parts.view_is in
    let x = c.index_mut.result.now in
    let y : Name × g.row.P.Denot = (x.0, c.take_out.new.self) in
    let here = read_same kept c.requires.0 x c.index_mut.ensures.value in
    elim c.if-is_empty.branch [
      | then-is_empty w ↦
          let new = ap (λ (n : Inside g.row.P.Denot). (arc_value n.page).slots.items) w.parts-inside-is ∙ ap (λ p. p.slots.items) (c.make_mut.follows.holds w.note_gone.new.self (ap is_ok c.in_ok-page.was))
          ∙ ap (λ v. v.items) w.note_gone.ensures ∙ w.remove.ensures.items ∙ ap (λ (l : List (Name × g.row.P.Denot)). remove (slice_set l c.args.place y) c.args.place) kept in
          let none : f c.take_out.new.self ≡ [] = ap (λ (z : Name × g.row.P.Denot). f z.1) (sym (c.index.ensures ∙ read_set kept c.requires.0 y c.index.result.now)) ∙ c.is_empty.ensures w.if-is_empty.true in
          drop_reached f c.args.name.now c.args.parts.now c.args.place c.requires x here c.take_out.new.self _ new none c.in_ok-take_out.ensures.ok
      | else-is_empty w ↦
          let new = ap (λ (n : Inside g.row.P.Denot). (arc_value n.page).slots.items) w.parts-inside-is ∙ ap (λ p. p.slots.items) (c.make_mut.follows.holds (record { slots = with_item page.slots c.args.place y; hints = page.hints }) (ap is_ok c.in_ok-page.was))
          ∙ ap (λ (l : List (Name × g.row.P.Denot)). slice_set l c.args.place y) kept in
          take_reached f c.args.name.now c.args.parts.now c.args.place c.requires x here c.take_out.new.self _ new c.in_ok-take_out.ensures.ok
    ]
