use Rattle.std.proofs.Common.{◌≡◌, ◌+◌, ◌<◌, ◌≤◌, ℕ, List, length, get_or, add-one, arith, refl, sym, ap, ◌∙◌}
use Rattle.map_core.specs.PlainMap.{PlainMap, merge, union, bundles}
use Rattle.map_core.specs.Table.{fetched}
use Rattle.step_core.specs.Shard.{ShardVersion, reading}
use Rattle.std.proofs.lemmas.Grind.{elements}
use Rattle.step_core.proofs.round.merge_readings.Goals as goal

together-next : (k : ℕ) (f : ℕ → PlainMap) → merge (k + 1) f ≡ union (merge k f) (f k)
unfolding merge
together-next k f = ap (λ (x : ℕ). merge x f) (add-one k)

together-none : (f : ℕ → PlainMap) → merge 0 f ≡ Rattle.std.specs.FinMap.empty
unfolding merge
together-none f = refl

pub loop-reading-init : goal.loop-reading-init
loop-reading-init c = c.new-all.ensures ∙ sym (together-none _)

item : (readings : List ShardVersion) (k : ℕ) (x : ShardVersion) → x ≡ get_or readings k x → k < length readings → x ≡ reading readings k
item readings k x is l = grind (arith, elements)

pub loop-reading-preserved : goal.loop-reading-preserved
loop-reading-preserved c =
    let f : ℕ → PlainMap = (λ j. (reading c.args.readings.now j).part) in
    let k = c.loop-reading.reading-index in
    let part_is : c.contents.result.now ≡ f k = c.contents.ensures ∙ ap (λ (v : ShardVersion). v.part) (item c.args.readings.now k c.reading-item.result c.reading-item.is c.loop-reading-test.true) in
    c.in_ok-all.ensures ∙ (λ i. union (c.loop-reading.invariant i) (part_is i)) ∙ sym (together-next k f)

same_index : (k n : ℕ) → k ≤ n → n ≤ k → k ≡ n
same_index k n a b = omega (arith, a, b)

pub returns : goal.returns
returns c =
    let f : ℕ → PlainMap = (λ j. (reading c.args.readings.now j).part) in
    let whole = same_index c.loop-reading.reading-index (length c.args.readings.now) c.loop-reading.auto.reading-index-end c.loop-reading-test.false in
    let all = c.loop-reading.invariant ∙ ap (λ (x : ℕ). merge x f) whole in
    c.into_reply.ensures ∙ ap (fetched c.args.known) (c.in_ok-into_snapshot.ensures ∙ ap bundles all)
