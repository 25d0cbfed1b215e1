use Rattle.std.proofs.Common.{ℕ, ◌%◌, rules, ap, ◌∙◌}
use Rattle.std.specs.Mem.Slots.{slots_items}
use Rattle.shard_store.proofs.Closed.{or_of_at, even_below}
use Rattle.shard_store.proofs.close.first_held.Goals as goal

pub returns-then-word-eq1 : goal.returns-then-word-eq1
returns-then-word-eq1 c = (search rules, ap (λ (z : ℕ). z % 2) (or_of_at (slots_items c.args.closed.now.words) c.loop-shard.shard _ 0 c.word.ensures) ∙ c.if-word-eq1.true)

pub loop-shard-preserved : goal.loop-shard-preserved
loop-shard-preserved c = even_below (slots_items c.args.closed.now.words) c.loop-shard.shard c.word.result c.word.ensures c.if-word-eq1.false c.loop-shard.invariant
