use Rattle.std.proofs.Common.{◌≡◌, ℕ, ◌+◌, ◌-◌, List, [], ◌∷◌, length, ap, ◌∙◌, All, sym, subst, arith}
use Rattle.shard_store.specs.Changes.{without_last, just_last}
use Rattle.shard_store.specs.Pass.{PassView, IsOf}
use Rattle.workers.specs.Closing.{HasOne}
use Rattle.workers.proofs.NumberLemmas.{HaveFrom, have_before, have_all}
use Rattle.workers.proofs.PassLists.{all_push}
use Rattle.workers.proofs.passes.passes_of.Goals as goal

pub loop-preserved : goal.loop-preserved
loop-preserved c =
    let store = c.args.store.now in
    let passes = c.loop.passes.items in
    let n = 4294967297 - c.loop.counter in
    let m = 4294967297 - (c.loop.counter + 1) in
    let before : c.loop.first.seen.ranges ≡ (0, n) ∷ [] = c.loop.invariant.1 in
    let kept : c.split.new.pass.seen.ranges ≡ (0, n - 1) ∷ [] = c.split.ensures.numbers.0 ∙ ap (without_last 1) before in
    let given : c.split.result.seen.ranges ≡ (0 + (n - 1), 1) ∷ [] = c.split.ensures.numbers.1 ∙ ap (just_last 1) before in
    let less : n - 1 ≡ m = omega arith in
    let at : 0 + (n - 1) ≡ m = omega arith in
    let next : m + 1 ≡ n = omega (arith, c.loop-test.true, c.requires.workers.1) in (
      c.split.ensures.own.0,
      kept ∙ ap (λ (k : ℕ). (0, k) ∷ []) less,
      omega (arith, c.in_ok-push.ensures.len, c.loop.invariant.2),
      subst (λ (ps : List PassView). All (λ p. IsOf p store) ps) (sym c.in_ok-push.ensures.items)
          (all_push (λ p. IsOf p store) passes c.split.result c.loop.invariant.3 c.split.ensures.own.1),
      subst (λ (ps : List PassView). HaveFrom m ps) (sym c.in_ok-push.ensures.items)
          (have_before passes c.split.result n m 1 (given ∙ ap (λ (k : ℕ). (k, 1) ∷ []) at) next c.loop.invariant.4),
      c.split.ensures.logs.0 ∙ c.loop.invariant.5,
      subst (λ (ps : List PassView). All (λ p. p.seen.log ≡ c.args.first.seen.log) ps) (sym c.in_ok-push.ensures.items)
          (all_push (λ p. p.seen.log ≡ c.args.first.seen.log) passes c.split.result c.loop.invariant.6 (c.split.ensures.logs.1 ∙ c.loop.invariant.5)),
      subst (λ (ps : List PassView). All HasOne ps) (sym c.in_ok-push.ensures.items) (all_push HasOne passes c.split.result c.loop.invariant.7 (0 + (n - 1), given)),
    )

pub returns-clause-all : goal.returns-clause-all
returns-clause-all c =
    let passes = c.loop.passes.items in
    let n = 4294967297 - c.loop.counter in
    let all = have_before passes c.loop.first n 0 n c.loop.invariant.1 (omega arith) c.loop.invariant.4 in
    have_all c.push-2.new.self.items (subst (λ (ps : List PassView). HaveFrom 0 ps) (sym c.in_ok-push-2.ensures.items) all)

pub returns-clause-shared : goal.returns-clause-shared
returns-clause-shared c =
    let others = c.loop.passes.items in
    let left : 4294967297 - c.loop.counter ≡ 4294967296 - length others = omega (arith, c.loop.invariant.2, c.loop.passes.ok) in
    record {
      others = others;
      last = c.loop.first;
      all = c.in_ok-push-2.ensures.items;
      one = c.loop.invariant.7;
      rest = c.loop.invariant.1 ∙ ap (λ (k : ℕ). (0, k) ∷ []) left;
    }

pub returns-clause-logs : goal.returns-clause-logs
returns-clause-logs c =
    subst (λ (ps : List PassView). All (λ p. p.seen.log ≡ c.args.first.seen.log) ps) (sym c.in_ok-push-2.ensures.items)
    (all_push (λ p. p.seen.log ≡ c.args.first.seen.log) c.loop.passes.items c.loop.first c.loop.invariant.6 c.loop.invariant.5)
