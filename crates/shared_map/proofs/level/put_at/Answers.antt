use Rattle.std.proofs.Common.{◌≡◌, inl, inr, ap, ◌∙◌, is_ok, List, not, refl}
use Rattle.std.specs.Prelude.{slice_set, is_some}
use Rattle.std.specs.Vec.{with_item}
use Rattle.std.specs.FinMap.Entries.{find}
use Rattle.std.proofs.lemmas.Result.{IfOk-weaker}
use Rattle.shared_map.specs.Name.{Name, name_cmp}
use Rattle.shared_map.specs.Marks.{plain}
use Rattle.shared_map.proofs.Places.{read_same}
use Rattle.shared_map.proofs.Levels.{sorted_here, find_reached, put_reached}
use Rattle.shared_map.proofs.level.put_at.Goals as goal

pub returns-clause-ok : goal.returns-clause-ok
returns-clause-ok g c =
    let page = c.in_ok-page.page.now in
    let kept : page.slots.items ≡ c.args.parts.now = elim c.in_ok-page.ensures.value [ inl e ↦ ap (λ p. p.slots.items) e | inr e ↦ e ] ∙ c.parts.view_is in
    let x = c.index_mut.result.now in
    let set = ap (λ p. p.slots.items) (c.make_mut.follows.holds (record { slots = with_item page.slots c.args.place (x.0, c.put.new.self); hints = page.hints }) (ap is_ok c.in_ok-page.was)) ∙ ap (λ (l : List (Name × g.row.P.Denot)). slice_set l c.args.place (x.0, c.put.new.self)) kept in
    IfOk-weaker c.put.result _ _ (λ _ h. put_reached g.P.Part.marks c.args.name c.args.parts.now c.args.place c.requires x (read_same kept c.requires.0 x c.index_mut.ensures.value) c.args.value c.put.new.self _ set h) c.put.ensures.ok

pub returns-clause-is_new : goal.returns-clause-is_new
returns-clause-is_new g c =
    let page = c.in_ok-page.page.now in
    let kept : page.slots.items ≡ c.args.parts.now = elim c.in_ok-page.ensures.value [ inl e ↦ ap (λ p. p.slots.items) e | inr e ↦ e ] ∙ c.parts.view_is in
    let x = c.index_mut.result.now in
    let here = read_same kept c.requires.0 x c.index_mut.ensures.value in
    IfOk-weaker c.put.result _ _ (λ _ h s. h (sorted_here g.P.Part.marks c.args.name c.args.parts.now c.args.place c.requires x here s)
    ∙ ap (λ o. not (is_some o)) (find_reached g.P.Part.marks c.args.name c.args.parts.now c.args.place c.requires x here (find name_cmp c.args.name (plain (g.P.Part.marks x.1))) (λ _. refl) s)) c.put.ensures.is_new
