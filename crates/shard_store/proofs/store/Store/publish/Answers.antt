use Rattle.std.proofs.Common.{◌++◌, ◌∷◌, [], rules}
use Rattle.shard_store.specs.declared.change.Seen.{Seen}
use Rattle.shard_store.specs.Private.Seat.{change_by}
use Rattle.shard_store.proofs.Promise.{hand_rest, put_in_hand}
use Rattle.shard_store.proofs.store.Store.publish.Goals as goal

pub exchange-old-requires : goal.exchange-old-requires
exchange-old-requires g c = let h = c.requires.held.0.2 in (search rules, (_, hand_rest _ _ h.1))

pub let_go_changed-requires-clause-holds : goal.let_go_changed-requires-clause-holds
let_go_changed-requires-clause-holds g c = let op = c.args.op.now in
    (put_in_hand _ _ (λ (s : Seen). s.log ++ change_by op s ∷ []) c.args.seat.now.me c.exchange-old.new.seat.me c.args.version c.requires.held.0.2 c.exchange-old.ensures.3 c.requires.version).1
