use Rattle.std.proofs.Common.{◌≡◌, ℕ, ◌+◌, arith, List, ◌∷◌, ◌++◌, take, drop, sym, ap, subst, ◌∙◌, take_all}
use Rattle.wire.specs.RequestForm.{IsOneLine}
use Rattle.wire.proofs.Lines.{no_line, line_at}
use Rattle.wire.proofs.line_decoder.LineDecoder.next_line.Goals as goal

pub invariant_of-self : goal.invariant_of-self
invariant_of-self c =
    let kept = c.self.inside.kept.items in
    let fresh = c.split_at.ensures.back ∙ ap (drop c.self.inside.searched) c.as_slice.ensures in
    let h = line_at kept c.self.inside.searched c.self.invariant.0 c.self.invariant.1 c.split_at.result.1.now fresh c.in-Some.at c.in-Some.ensures in
    (omega (arith, h.2), h.0)

pub invariant_of-self-in-None : goal.invariant_of-self-in-None
invariant_of-self-in-None c =
    let kept = c.self.inside.kept.items in
    let fresh = c.split_at.ensures.back ∙ ap (drop c.self.inside.searched) c.as_slice.ensures in
    let none = no_line kept c.self.inside.searched c.self.invariant.0 c.self.invariant.1 c.split_at.result.1.now fresh c.in-None.ensures in
    (omega (arith, c.len-self-inside.ensures.value), subst IsOneLine (sym (take_all c.len-self-inside.result kept (omega (arith, c.len-self-inside.ensures.value)))) none)

pub returns-in-Some-clause-next : goal.returns-in-Some-clause-next
returns-in-Some-clause-next c =
    let kept = c.self.inside.kept.items in
    let fresh = c.split_at.ensures.back ∙ ap (drop c.self.inside.searched) c.as_slice.ensures in
    let h = line_at kept c.self.inside.searched c.self.invariant.0 c.self.invariant.1 c.split_at.result.1.now fresh c.in-Some.at c.in-Some.ensures in
    let n = c.self.inside.searched + c.in-Some.at in
    subst (λ (all : List ℕ). IsOneLine (take n all) × (all ≡ take n all ++ 10 ∷ drop (n + 1) all)) c.self.view_is (h.0, h.1)

pub returns-in-None-clause-next : goal.returns-in-None-clause-next
returns-in-None-clause-next c =
    let kept = c.self.inside.kept.items in
    let fresh = c.split_at.ensures.back ∙ ap (drop c.self.inside.searched) c.as_slice.ensures in
    subst IsOneLine c.self.view_is (no_line kept c.self.inside.searched c.self.invariant.0 c.self.invariant.1 c.split_at.result.1.now fresh c.in-None.ensures)
