use Rattle.std.proofs.Common.{◌<◌, ℕ, sym, subst}
use Rattle.step_core.proofs.Parts.{fresh_map, fresh_parts}
use Rattle.step_core.proofs.shards.Shards.new.Goals as goal

pub invariant_of-result : goal.invariant_of-result
invariant_of-result c =
    let shards = c.in_ok-shards.shards.items in
    let size = c.in_ok-shards.ensures.len in
    fresh_parts shards (subst (λ (k : ℕ). 0 < k) (sym size) c.requires) (λ i l. c.in_ok-shards.ensures.fresh i (subst (λ (k : ℕ). i < k) size l))

pub returns-clause-empty : goal.returns-clause-empty
returns-clause-empty c =
    let shards = c.in_ok-shards.shards.items in
    let size = c.in_ok-shards.ensures.len in
    fresh_map shards (subst (λ (k : ℕ). 0 < k) (sym size) c.requires) (λ i l. c.in_ok-shards.ensures.fresh i (subst (λ (k : ℕ). i < k) size l))
