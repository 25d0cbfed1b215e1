use Rattle.std.proofs.Common.{◌≡◌, ◌+◌, ◌<◌, ℕ, Bool, true, false, cond, List, [], ◌∷◌, ◌++◌, length, get_or, take, arith, sym, ap, ◌∙◌, append-nil}
use Rattle.std.proofs.lemmas.List.{take_all}
use Rattle.std.proofs.lemmas.List.Elements.{filter-append}
use Rattle.std.specs.Prelude.{filter}
use Rattle.std.proofs.lemmas.Grind.{elements}
use Rattle.step_core.specs.Records.{took_effect, no_record}
use Rattle.step_core.proofs.run.effective.Goals as goal
use Rattle.step_core.proofs.run.effective.Goals.{then-took_effect_at+in_ok-push, else-took_effect_at}

filter-push : (f : ℕ → Bool) (xs : List ℕ) (x : ℕ) → filter f (xs ++ x ∷ []) ≡ filter f xs ++ cond (f x) (x ∷ []) []
filter-push f xs x = filter-append f xs (x ∷ [])

next_take : (xs : List ℕ) (k : ℕ) → k < length xs → take (k + 1) xs ≡ take k xs ++ get_or xs k 0 ∷ []
next_take xs k l = grind (arith, elements)

taken : (f : ℕ → Bool) (xs order next : List ℕ) (k : ℕ) (b : Bool) → b ≡ f (get_or xs k 0) → k < length xs → order ≡ filter f (take k xs) → next ≡ order ++ cond b (get_or xs k 0 ∷ []) [] → next ≡ filter f (take (k + 1) xs)
taken f xs order next k b test l was is =
    is ∙ (λ i. was i ++ cond (test i) (get_or xs k 0 ∷ []) []) ∙ sym (filter-push f (take k xs) (get_or xs k 0)) ∙ ap (filter f) (sym (next_take xs k l))

pub loop-number-init : goal.loop-number-init
loop-number-init c = c.new-order.ensures.items

pub loop-number-preserved : goal.loop-number-preserved
loop-number-preserved c =
    let f : ℕ → Bool = (λ q. took_effect (get_or c.args.ops.now q no_record)) in
    let xs = c.args.numbers.now in
    let k = c.loop-number.number-index in
    elim c.if-took_effect_at.branch [
      | then-took_effect_at+in_ok-push w ↦ taken f xs c.loop-number.order.items c.if-took_effect_at.order.items k true (sym w.if-took_effect_at.true ∙ c.took_effect_at.ensures) c.loop-number-test.true c.loop-number.invariant (ap (λ v. v.items) w.order-is ∙ w.in_ok-push.ensures.items)
      | else-took_effect_at w ↦ taken f xs c.loop-number.order.items c.if-took_effect_at.order.items k false (sym w.if-took_effect_at.false ∙ c.took_effect_at.ensures) c.loop-number-test.true c.loop-number.invariant (ap (λ v. v.items) w.order-is ∙ sym (append-nil c.loop-number.order.items))
    ]

pub returns : goal.returns
returns c = c.loop-number.invariant ∙ ap (filter (λ q. took_effect (get_or c.args.ops.now q no_record))) (take_all c.loop-number.number-index c.args.numbers.now c.loop-number-test.false)
