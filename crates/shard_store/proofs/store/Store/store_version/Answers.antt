use Rattle.std.proofs.Common.{◌≡◌, ℕ, ◌*◌, arith}
use Rattle.shard_store.proofs.Promise.{change_since, writes_since}
use Rattle.shard_store.proofs.store.Store.store_version.Goals as goal

same_count : (word a b : ℕ) → word ≡ 2 * a → word ≡ 2 * b → b ≡ a
same_count word a b e f = omega arith

pub publish-requires-clause-version : goal.publish-requires-clause-version
publish-requires-clause-version c =
    change_since _ _ c.args.op.now c.args.seat.now.me.0.seen c.hold_from.new.seat.me.0.seen _ c.requires.home.1 c.hold_from.ensures.later (same_count _ _ _ c.requires.word.0.1 c.in_ok-hold_from.ensures.found.1.1) c.requires.version

pub returns-clause-written : goal.returns-clause-written
returns-clause-written c =
    writes_since _ _ c.args.op.now c.args.seat.now.me.0.seen c.hold_from.new.seat.me.0.seen c.publish.new.seat.me.0.seen c.requires.home.1 c.hold_from.ensures.later (same_count _ _ _ c.requires.word.0.1 c.in_ok-hold_from.ensures.found.1.1) c.publish.ensures.written
