use Rattle.std.proofs.Common.{rules}
use Rattle.std.specs.Arc.{arc_value}
use Rattle.shard_store.specs.Numbers.{IsPart}
use Rattle.shard_store.proofs.Promise.{hand_rest, returned, held_still}
use Rattle.shard_store.proofs.store.Store.copy_version.Goals as goal

pub exchange-requires : goal.exchange-requires
exchange-requires c = let h = c.requires.held.2 in (search rules, (_, hand_rest _ _ h.1))

pub returns-clause-held : goal.returns-clause-held
returns-clause-held c = let z = c.args.self.now.id in let h = c.requires.held in let log = c.args.seat.now.me.0.seen.log in let p : IsPart z.slots c.args.hold.shard log (arc_value c.unwrap-version.result) = search rules in
    let kept = returned z.slots c.args.hold.shard log c.args.seat.now.me c.exchange.new.seat.me c.exchange-2.new.seat.me _ c.unwrap-version.result h.2 c.exchange.ensures.3 c.exchange-2.ensures.3 p in
    (held_still z c.args.hold c.args.seat.now c.exchange-2.new.seat kept.0 (search rules) h.1 kept.1, kept.0)
