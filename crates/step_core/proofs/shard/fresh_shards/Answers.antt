use Rattle.std.proofs.Common.{◌≡◌, ◌+◌, ◌<◌, ◌≤◌, ℕ, List, [], ◌∷◌, ◌++◌, length, ◌⊎◌, ⊎_elim, arith, length-append, sym, ap, ◌∙◌}
use Rattle.std.proofs.lemmas.Grind.{elements}
use Rattle.step_core.specs.Shard.{ShardVersion, reading, fresh_shard}
use Rattle.step_core.proofs.shard.fresh_shards.Goals as goal

new_here : (xs : List ShardVersion) (v : ShardVersion) (i : ℕ) → i ≡ length xs → reading (xs ++ v ∷ []) i ≡ v
new_here xs v i is = grind (arith, elements)

old_here : (xs : List ShardVersion) (v : ShardVersion) (i : ℕ) → i < length xs → reading (xs ++ v ∷ []) i ≡ reading xs i
old_here xs v i l = grind (arith, elements)

abbrev AllFresh : List ShardVersion → ℕ → Type 0
AllFresh xs k = (length xs ≡ k) × ((i : ℕ) → i < k → reading xs i ≡ fresh_shard)

pushed : (xs ys : List ShardVersion) (v : ShardVersion) (k : ℕ) → ys ≡ xs ++ v ∷ [] → v ≡ fresh_shard → AllFresh xs k → AllFresh ys (k + 1)
pushed xs ys v k is fresh h =
    let size : length (xs ++ v ∷ []) ≡ k + 1 = omega (arith, length-append {A = ShardVersion}, h.0) in (
      ap (length {A = ShardVersion}) is ∙ size,
      λ i l. let cases : (i ≡ k) ⊎ (i < k) = grind (arith, l) in
          ap (λ (l : List ShardVersion). reading l i) is ∙ ⊎_elim (λ (at : i ≡ k). new_here xs v i (at ∙ sym h.0) ∙ fresh) (λ (below : i < k). old_here xs v i (let m : i < length xs = omega (arith, below, h.0) in m) ∙ h.1 i below) cases,
    )

none : (xs : List ShardVersion) → xs ≡ [] → AllFresh xs 0
none xs is = (ap (length {A = ShardVersion}) is, λ i l. let never : ⊥ = omega (arith, l) in absurd never)

pub loop-init : goal.loop-init
loop-init c = none c.new-shards.result.items c.new-shards.ensures.items

pub loop-preserved : goal.loop-preserved
loop-preserved c = pushed c.loop.shards.items c.push.new.self.items c.in_ok-shard.shard c.loop.counter c.in_ok-push.ensures.items c.in_ok-shard.ensures c.loop.invariant

same_count : (k n : ℕ) → k ≤ n → n ≤ k → k ≡ n
same_count k n a b = omega (arith, a, b)

pub returns-clause-len : goal.returns-clause-len
returns-clause-len c = c.loop.invariant.0 ∙ same_count c.loop.counter c.args.count c.loop.auto.counter-end c.loop-test.false

pub returns-clause-fresh : goal.returns-clause-fresh
returns-clause-fresh c = λ i l. c.loop.invariant.1 i (let k : i < c.loop.counter = omega (arith, l, c.loop-test.false) in k)
