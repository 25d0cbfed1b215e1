use Rattle.std.proofs.Common.{◌≡◌, ◌%◌, arith}
use Rattle.shard_store.proofs.Promise.{later_then, missed_then, even_unless, error_passed}
use Rattle.shard_store.proofs.store.Store.try_hold.Goals as goal

pub returns-clause-later : goal.returns-clause-later
returns-clause-later c = later_then c.args.seat.now.me.0.seen c.look-word.new.seat.me.0.seen c.hold_from.new.seat.me.0.seen c.look-word.ensures.looked.1 c.hold_from.ensures.later

pub returns-in_err-hold_from-clause-later : goal.returns-in_err-hold_from-clause-later
returns-in_err-hold_from-clause-later c = later_then c.args.seat.now.me.0.seen c.look-word.new.seat.me.0.seen c.hold_from.new.seat.me.0.seen c.look-word.ensures.looked.1 c.hold_from.ensures.later

pub returns-in_err-hold_from-clause-found : goal.returns-in_err-hold_from-clause-found
returns-in_err-hold_from-clause-found c = let f = c.in_err-hold_from.ensures.found in
    error_passed c.from_residual.result c.in_err-hold_from.field-0.0 _ _ c.from_residual.ensures.1
    (f.0, missed_then _ _ _ c.args.seat.now.me.0.seen c.look-word.new.seat.me.0.seen c.hold_from.new.seat.me.0.seen c.look-word.ensures.looked.1 f.1)

pub returns-clause-found : goal.returns-clause-found
returns-clause-found c = let even : c.look-word.result % 2 ≡ 0 = even_unless c.look-word.result c.if-word-eq1.false in let limit = c.look-word.ensures.found.1 in
    (c.in_ok-hold_from.ensures.found, omega (arith, even, limit))
