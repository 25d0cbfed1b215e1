use Rattle.std.proofs.Common.{rules, Some, None, refl, ap, ◌∙◌}
use Rattle.std.specs.Prelude.{Ok, Err}
use Rattle.std.specs.Arc.{arc_with_value}
use Rattle.map_core.specs.declared.op.Op.{Op}
use Rattle.map_core.specs.PlainMap.{PlainMap, ask, standing_for}
use Rattle.shard_store.proofs.Promise.{hand_rest}
use Rattle.shard_store.proofs.InHand.{part_found, asked_in_hand, refused_in_hand}
use Rattle.shard_store.proofs.store.Store.ask_in_hand.Goals as goal

pub slot_mut-requires : goal.slot_mut-requires
slot_mut-requires c = let h = c.requires.held.2 in (search rules, (_, hand_rest _ _ h.1))

pub returns-in_default-get_mut-clause-asked : goal.returns-in_default-get_mut-clause-asked
returns-in_default-get_mut-clause-asked c = let n = c.args.self.now.id.slots in let i = c.args.hold.shard in let m = c.args.seat.now.me in let hand = c.requires.held.2 in let version = c.in-Some.version in
    asked_in_hand n i m hand c.args.op.now version version (Ok None) c.requires.home.1 (part_found n i m hand _ version c.slot_mut.ensures.value c.in-Some.is) refl

pub returns-in_err-copy-clause-asked : goal.returns-in_err-copy-clause-asked
returns-in_err-copy-clause-asked c = let n = c.args.self.now.id.slots in let i = c.args.hold.shard in let m = c.args.seat.now.me in let hand = c.requires.held.2 in let version = c.in-Some.version in
    let new = arc_with_value version c.in-Some-get_mut.contents.now in
    refused_in_hand n i c.args.op.now m.0.seen c.from_residual.result c.in_err-copy.field-0.0 _ c.from_residual.ensures.1
    (asked_in_hand n i m hand c.args.op.now version new (Err c.in_err-copy.field-0.0) c.requires.home.1 (part_found n i m hand _ version c.slot_mut.ensures.value c.in-Some.is) c.in-Some-get_mut.ensures.value)

pub returns-in-Ok-clause-asked : goal.returns-in-Ok-clause-asked
returns-in-Ok-clause-asked c = let n = c.args.self.now.id.slots in let i = c.args.hold.shard in let m = c.args.seat.now.me in let hand = c.requires.held.2 in let version = c.in-Some.version in
    let new = arc_with_value version c.ask.new.self in
    asked_in_hand n i m hand c.args.op.now version new (Ok (Some (c.in-Ok.reply, record { before = c.standing-before.result; after = c.standing-after.result }))) c.requires.home.1 (part_found n i m hand _ version c.slot_mut.ensures.value c.in-Some.is) (
      c.in-Ok.ensures.reply ∙ ap (λ (op : Op). (ask c.in-Some-get_mut.contents.now op).reply) c.in_ok-copy.ensures ∙ ap (λ (m : PlainMap). (ask m c.args.op.now).reply) c.in-Some-get_mut.ensures.value,
      c.in-Ok.ensures.left ∙ ap (λ (op : Op). (ask c.in-Some-get_mut.contents.now op).map) c.in_ok-copy.ensures ∙ ap (λ (m : PlainMap). (ask m c.args.op.now).map) c.in-Some-get_mut.ensures.value,
      c.standing-before.ensures ∙ ap (λ (m : PlainMap). standing_for m c.args.op.now) c.in-Some-get_mut.ensures.value,
      c.standing-after.ensures,
    )

pub returns-in-Err-clause-asked : goal.returns-in-Err-clause-asked
returns-in-Err-clause-asked c = let n = c.args.self.now.id.slots in let i = c.args.hold.shard in let m = c.args.seat.now.me in let hand = c.requires.held.2 in let version = c.in-Some.version in
    let new = arc_with_value version c.ask.new.self in
    asked_in_hand n i m hand c.args.op.now version new (Err _) c.requires.home.1 (part_found n i m hand _ version c.slot_mut.ensures.value c.in-Some.is) (c.in-Err.ensures.err ∙ c.in-Some-get_mut.ensures.value)
