use Rattle.std.proofs.Common.{◌≡◌, ◌+◌, suc, ◌∷◌, [], List, ◌++◌, ap, sym, subst, refl, ◌∙◌, append_assoc, arith}
use Rattle.std.specs.Prelude.{ℕ}
use Rattle.wire.specs.Frame.{frame}
use Rattle.workers.specs.Filling.{stored_replies}
use Rattle.workers.proofs.Fillings.{next_stored, version_first}
use Rattle.workers.proofs.filling.are_stored.Goals as goal

pub loop-init : goal.loop-init
unfolding frame
loop-init c = c.in-Some.ensures.some

pub loop-preserved : goal.loop-preserved
unfolding frame
loop-preserved c =
    let before = stored_replies c.loop.counter in
    let next = c.in-Some-after.next.now in
    let one_more : suc c.loop.counter ≡ c.loop.counter + 1 = omega arith in
    subst (λ (n : ℕ). c.args.replies.now ≡ stored_replies n ++ next) one_more
    (c.loop.invariant ∙ (ap (λ (rest : List ℕ). before ++ rest) c.in-Some-after.ensures.some ∙ sym (append_assoc before (frame (115 ∷ [])) next)))

pub returns-in_default-clause-no : goal.returns-in_default-clause-no
unfolding frame
returns-in_default-clause-no c = λ none same.
    let (rest, first) = version_first c.args.count in
    c.in_default.ensures.none refl rest (same ∙ first)

pub returns-in_default-after-clause-no : goal.returns-in_default-after-clause-no
unfolding frame
returns-in_default-after-clause-no c = λ none same.
    let (rest, next) = next_stored c.loop.counter c.args.count c.loop.rest.now (omega (arith, c.loop-test.true)) (sym same ∙ c.loop.invariant) in
    c.in_default-after.ensures.none refl rest next
