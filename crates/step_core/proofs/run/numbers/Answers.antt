use Rattle.std.proofs.Common.{◌≡◌, ◌+◌, ◌<◌, ℕ, List, [], ◌∷◌, ◌++◌, length, get_or, take, Option, Some, None, sym, ap, ◌∙◌}
use Rattle.std.proofs.lemmas.List.{take_more, take_all}
use Rattle.step_core.specs.Private.Driver.{positions}
use Rattle.step_core.proofs.Places.{taken-push, taken-skip}
use Rattle.step_core.proofs.run.numbers.Goals as goal
use Rattle.step_core.proofs.run.numbers.Goals.{in-Some+in_ok-push, in_default}

next_take : (xs : List (Option ℕ)) (k : ℕ) (x : Option ℕ) → get_or xs k None ≡ x → k < length xs → take (k + 1) xs ≡ take k xs ++ x ∷ []
next_take xs k x is l = take_more xs k None l ∙ ap (λ (y : Option ℕ). take k xs ++ y ∷ []) is

pub loop-point-preserved : goal.loop-point-preserved
loop-point-preserved c =
    let xs = c.args.points.now in
    let k = c.loop-point.point-index in
    elim c.match-point.branch [
      | in-Some+in_ok-push w ↦ ap (λ v. v.items) w.numbers-is ∙ w.in_ok-push.ensures.items ∙ ap (λ (r : List ℕ). r ++ w.in-Some.number ∷ []) c.loop-point.invariant
          ∙ sym (ap positions (next_take xs k (Some w.in-Some.number) w.in-Some.is c.loop-point-test.true) ∙ taken-push (take k xs) w.in-Some.number)
      | in_default w ↦ ap (λ v. v.items) w.numbers-is ∙ c.loop-point.invariant ∙ sym (ap positions (next_take xs k None w.in_default.is c.loop-point-test.true) ∙ taken-skip (take k xs))
    ]

pub returns : goal.returns
returns c = c.loop-point.invariant ∙ ap positions (take_all c.loop-point.point-index c.args.points.now c.loop-point-test.false)
