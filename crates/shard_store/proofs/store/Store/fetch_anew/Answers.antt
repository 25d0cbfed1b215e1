use Rattle.std.proofs.Common.{List, Global, None, sym, subst}
use Rattle.std.specs.declared.sync.Arc.{Arc}
use Rattle.map_core.specs.declared.reply.AskError.TheVariants.{Memory}
use Rattle.map_core.specs.PlainMap.{PlainMap}
use Rattle.shard_store.specs.Changes.{after}
use Rattle.shard_store.specs.Private.Readings.{ArePartsOf}
use Rattle.shard_store.proofs.Promise.{error_passed, later_self}
use Rattle.shard_store.proofs.Readings.{later_snapshot}
use Rattle.shard_store.proofs.LastAll.{fetched}
use Rattle.shard_store.proofs.store.Store.fetch_anew.Goals as goal

pub returns-in_err-make_room-clause-ready : goal.returns-in_err-make_room-clause-ready
returns-in_err-make_room-clause-ready c = (c.requires.ready.0, c.make_room.ensures _ c.args.desk.now.seat.me.0.seen.log c.requires.ready.1)

pub returns-in_err-make_room-clause-answer : goal.returns-in_err-make_room-clause-answer
returns-in_err-make_room-clause-answer c = error_passed c.from_residual.result Memory _ _ c.from_residual.ensures.1 (later_self c.args.desk.now.seat.me.0.seen)

pub fetch_parts-requires : goal.fetch_parts-requires
fetch_parts-requires c = record { ready = (c.requires.ready.0, c.make_room.ensures _ c.args.desk.now.seat.me.0.seen.log c.requires.ready.1) }

pub returns-in_err-all-clause-answer : goal.returns-in_err-all-clause-answer
returns-in_err-all-clause-answer c = let read = c.in_ok-revisions.field-0 in
    error_passed c.from_residual-in_err-all.result Memory _ _ c.from_residual-in_err-all.ensures.1
    (later_snapshot _ c.args.desk.now.seat.me.0.seen c.fetch_parts.new.desk.seat.me.0.seen read.revisions.items read.versions.items c.in_ok-revisions.ensures.parts)

pub returns-clause-answer : goal.returns-clause-answer
returns-clause-answer c = let x = c.in_ok-revisions.ensures.parts in let read = c.in_ok-revisions.field-0 in
    fetched c.args.self.now.id.slots c.args.desk.now.seat.me.0.seen c.fetch_parts.new.desk.seat.me.0.seen read.versions.items (record { revisions = read.revisions; all = c.in_ok-all.all; digest = None }) x
    (c.in_ok-all.ensures (after x.0) (subst (λ (l : List (Arc PlainMap Global)). ArePartsOf (after x.0) l) (sym c.as_slice.ensures.value) x.5)) tt
