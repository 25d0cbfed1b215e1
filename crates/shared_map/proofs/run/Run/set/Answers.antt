use Rattle.std.proofs.Common.{◌≡◌, inl, inr, ap, ◌∙◌, is_ok}
use Rattle.std.specs.Vec.{with_item}
use Rattle.shared_map.proofs.Places.{value_at}
use Rattle.shared_map.proofs.run.Run.set.Goals as goal

pub returns-clause-ok : goal.returns-clause-ok
returns-clause-ok g c =
    let page = c.in_ok-page.field-0.now in
    let kept : page.slots.items ≡ c.args.self.now = elim c.in_ok-page.ensures.value [ inl e ↦ ap (λ p. p.slots.items) e | inr e ↦ e ] ∙ c.self.view_is in
    λ a. ap (λ p. p.slots.items) (c.make_mut.follows.holds (record { slots = with_item page.slots c.args.place (c.index_mut.result.now.0, c.args.held); hints = page.hints }) (ap is_ok c.in_ok-page.was))
    ∙ value_at kept a c.args.held c.index_mut.result.now c.index_mut.ensures.value
