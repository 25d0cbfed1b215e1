use Rattle.std.proofs.Common.{◌≡◌, ◌%◌, ◌≤◌, ℕ, List, length, sum, take, arith, ap, ◌∙◌}
use Rattle.std.proofs.lemmas.Grind.{elements}
use Rattle.map_core.specs.PlainMap.{home}
use Rattle.map_core.proofs.home.home.Goals as goal

all_taken : (bytes : List ℕ) (k : ℕ) → length bytes ≤ k → take k bytes ≡ bytes
all_taken bytes k l = grind (arith, elements)

pub returns-clause-shard : goal.returns-clause-shard
unfolding home
returns-clause-shard c =
    let all : c.loop-byte.total ≡ sum c.args.domain.now = c.loop-byte.invariant.0 ∙ ap sum (all_taken _ _ c.loop-byte-test.false ∙ c.as_bytes-bytes.ensures.value ∙ c.as_str.ensures.value) in
    c.modulo.ensures ∙ ap (λ (x : ℕ). x % c.args.shards) all
