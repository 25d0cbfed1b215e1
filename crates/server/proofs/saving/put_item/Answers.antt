use Rattle.std.proofs.Common.{◌≡◌, ℕ, List, ◌++◌, subst, ap, ◌∙◌, append_assoc}
use Rattle.wire.specs.Answers.{item_frame}
use Rattle.server.proofs.saving.put_item.Goals as goal

pub returns-clause-ok : goal.returns-clause-ok
returns-clause-ok g c = λ written held.
    let front = c.as_slice.result.now in
    let text = c.canonical_text.result.now in
    let item = c.args.item.now in
    let is : front ++ text ≡ item_frame item =
    ap (λ (f : List ℕ). f ++ text) c.as_slice.ensures.value
    ∙ (ap (λ (t : List ℕ). c.item_front-front.result.items ++ t) c.canonical_text.ensures.value ∙ c.item_front-front.ensures) in
    subst (g.K.Keeper.holds c.put-2.new.draft) (append_assoc written front text ∙ ap (λ (t : List ℕ). written ++ t) is)
    (c.in_ok-put-2.ensures.ok (written ++ front) (c.in_ok-put.ensures.ok written held))
