use Rattle.std.proofs.Common.{◌≡◌, ◌/◌, ◌<◌, rules, refl, sym, ap, ◌∙◌, subst, arith}
use Rattle.atomic_table.specs.Seated.{TableId}
use Rattle.shard_store.specs.Changes.{count}
use Rattle.shard_store.specs.Private.Seat.{HasInHand}
use Rattle.shard_store.proofs.KeptSteps.{takes_shard}
use Rattle.shard_store.proofs.Promise.{someone, missed_seat, taken_holds, taken_count, at_slots}
use Rattle.shard_store.proofs.store.Store.hold_from.Goals as goal

pub compare_exchange-found-requires : goal.compare_exchange-found-requires
compare_exchange-found-requires c = let z = ap (λ s. s.id) c.self.view_is in let idle = c.requires.free.1 in let within : c.args.hold.shard < c.self.inside.shards.shared.table_id.slots = subst (λ (t : TableId). c.args.hold.shard < t.slots) (sym z) c.requires.word.0 in
    (c.requires.free.0 ∙ sym z, omega (arith, within, c.self.invariant.0.0), takes_shard _ _ _ _ _ _ _ within (omega (arith, c.requires.word.1)) refl idle.2 (someone c.args.seat.now.me.0 idle.3))

pub returns-else-found-word-clause-found : goal.returns-else-found-word-clause-found
returns-else-found-word-clause-found c = let t = c.compare_exchange-found.ensures.2 in let z = ap (λ s. s.id) c.self.view_is in
    let miss = missed_seat _ _ _ _ _ _ t.0 c.requires.free.1 t.1 (at_slots (λ k. c.compare_exchange-found.result / 2 ≡ count k.slots t.0 c.args.hold.shard) _ _ (sym z) t.2) c.requires.word.1 c.if-found-word.false t.3 (t.5 c.if-found-word.false) in
    ((search rules, miss.0), miss.1)

pub returns-then-found-word-clause-found : goal.returns-then-found-word-clause-found
returns-then-found-word-clause-found c = let t = c.compare_exchange-found.ensures.2 in let hit = c.if-found-word.true in let took = t.4 hit in let m = c.args.seat.now.me in let m' = c.compare_exchange-found.new.seat.me in let z = ap (λ s. s.id) c.self.view_is in
    let n = c.args.self.now.id.slots in let i = c.args.hold.shard in let word = c.requires.word in
    let same : count n m'.0.seen.log i ≡ count n m.0.seen.log i = taken_count n i c.args.hold.word c.compare_exchange-found.result m m' t.0 _ _ took.1 (at_slots (λ k. c.compare_exchange-found.result / 2 ≡ count k.slots t.0 i) _ _ (sym z) t.2) word.1 hit in
    (search rules, (word.0, omega (arith, same, word.1)), at_slots (λ k. HasInHand k.slots i m'.0.seen.log m') _ _ (sym z) (taken_holds _ i m m' t.0 c.requires.free.1 took))
