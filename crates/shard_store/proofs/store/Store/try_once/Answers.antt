use Rattle.std.proofs.Common.{◌≡◌, ℕ, Option, Some, None, sym, ap, ◌∙◌, subst}
use Rattle.std.specs.Prelude.{MatchResult, Result, Ok, Err}
use Rattle.atomic_table.specs.Table.{Me}
use Rattle.map_core.specs.declared.op.Op.{Op}
use Rattle.map_core.specs.declared.reply.Reply.{Reply}
use Rattle.map_core.specs.declared.reply.AskError.{AskError}
use Rattle.shard_store.specs.declared.change.Seen.{Seen}
use Rattle.shard_store.specs.declared.change.View.{View}
use Rattle.shard_store.specs.declared.one_shard.Attempt.{Attempt}
use Rattle.shard_store.specs.declared.one_shard.Attempt.TheVariants.{Replied, Blocked}
use Rattle.shard_store.specs.Promise.{IsLater, IsRefusedAt}
use Rattle.shard_store.specs.Rule.{SlotValue}
use Rattle.shard_store.specs.declared.tally.Shift.{Shift}
use Rattle.shard_store.specs.Private.Seat.{AsksInHand, Tried, Writes}
use Rattle.shard_store.proofs.Promise.{answered_since, refused_since, missed_then, later_then, later_same, held_still}
use Rattle.shard_store.proofs.InHand.{changed_holds, answered_by_change}
use Rattle.shard_store.proofs.LastReads.{none_here}
use Rattle.shard_store.proofs.Shifts.{shifted_last}
use Rattle.shard_store.proofs.store.Store.try_once.Goals as goal

-- what a try gave since more was seen, it gave since then
tried_since : (n shard : ℕ) (op : Op) (s t u : Seen) (a : Attempt) → IsLater t s → Tried n shard op t u a → Tried n shard op s u a
tried_since n shard op s t u (Replied reply read shift) l a = ((answered_since op s t u reply l a.0.0, a.0.1), a.1)
tried_since n shard op s t u (Blocked found) l a = (later_then s t u l a.0, missed_then n shard found s t u l a.1)

one_since : (n shard : ℕ) (op : Op) (s t u : Seen) (r : Result Attempt AskError) → IsLater t s → MatchResult r (Tried n shard op t u) (IsRefusedAt n op t u) → MatchResult r (Tried n shard op s u) (IsRefusedAt n op s u)
one_since n shard op s t u (Ok a) l r = tried_since n shard op s t u a l r
one_since n shard op s t u (Err e) l r = refused_since n op s t u e l r

-- what was asked of the version in hand, by the reply
asked_as : {Z : Type 0} (n i : ℕ) (op : Op) (s : Seen) (m : Me (SlotValue Z) View) (o o' : Option (Reply × Shift)) → o ≡ o' → AsksInHand n i op s (Ok o) m → AsksInHand n i op s (Ok o') m
asked_as {Z} n i op s m o o' e a = subst (λ (x : Option (Reply × Shift)). AsksInHand n i op s (Ok x) m) e a

seen_same : (v w : View) → w ≡ v → w.seen ≡ v.seen
seen_same v w e = ap (λ (x : View). x.seen) e

pub try_held-requires-clause-held : goal.try_held-requires-clause-held
try_held-requires-clause-held c = let q = c.ask_in_hand.new.seat in let e = c.ask_in_hand.ensures.seat in let found = c.in-Ok.ensures.found in
    let hand = asked_as c.args.self.now.id.slots c.args.shard c.args.op.now c.try_hold.new.seat.me.0.seen q.me c.in-Ok-None.field-0 None c.in-Ok-None.field-0-is c.in-Ok-None.ensures.asked in
    (held_still _ (record { shard = c.args.shard; word = c.in-Ok.word }) c.try_hold.new.seat q e.1 e.0 found.0.1 hand, found.1)

pub returns-in-Ok-None-clause-tried : goal.returns-in-Ok-None-clause-tried
returns-in-Ok-None-clause-tried c = let s = c.args.seat.now.me.0.seen in let t = c.try_hold.new.seat.me.0.seen in let u = c.ask_in_hand.new.seat.me.0.seen in
    one_since c.args.self.now.id.slots c.args.shard c.args.op.now s u c.try_held.new.seat.me.0.seen c.try_held.result (later_same s t u c.try_hold.ensures.later (seen_same _ _ c.ask_in_hand.ensures.seat.1)) c.try_held.ensures.tried

pub let_go_changed-requires-clause-holds : goal.let_go_changed-requires-clause-holds
let_go_changed-requires-clause-holds c = let m = c.ask_in_hand.new.seat.me in let t = c.try_hold.new.seat.me.0.seen in
    let told = asked_as c.args.self.now.id.slots c.args.shard c.args.op.now t m c.in-Ok-Some.field-0 (Some (c.in-Ok-Some.reply, c.in-Ok-Some.shift)) c.in-Ok-Some.field-0-is c.in-Ok-Some.ensures.asked in
    changed_holds _ _ c.args.op.now t m (seen_same _ _ c.ask_in_hand.ensures.seat.1) (told.1 (sym c.is_change.ensures ∙ c.if-is_change.true))

pub returns-then-is_change-clause-tried : goal.returns-then-is_change-clause-tried
returns-then-is_change-clause-tried c = let t = c.try_hold.new.seat.me.0.seen in let m = c.ask_in_hand.new.seat.me in let u = c.let_go_changed.new.seat.me.0.seen in let n = c.args.self.now.id.slots in let i = c.args.shard in let reply = c.in-Ok-Some.reply in
    let told = asked_as n i c.args.op.now t m c.in-Ok-Some.field-0 (Some (reply, c.in-Ok-Some.shift)) c.in-Ok-Some.field-0-is c.in-Ok-Some.ensures.asked in
    let same : m.0.seen ≡ t = seen_same _ _ c.ask_in_hand.ensures.seat.1 in let write = sym c.is_change.ensures ∙ c.if-is_change.true in let written = c.let_go_changed.ensures.written in (
      (
        answered_since c.args.op.now c.args.seat.now.me.0.seen t u reply c.try_hold.ensures.later
            (answered_by_change n i c.args.op.now t m.0.seen u reply c.requires.home.1 same told.0 write written),
        none_here n i u.log,
      ),
      shifted_last n i c.args.op.now t u reply c.in-Ok-Some.shift c.requires.home.1 write told.3 (subst (λ (x : Seen). Writes n i c.args.op.now x u) same written),
    )

pub release-requires : goal.release-requires
release-requires c = let q = c.ask_in_hand.new.seat in let e = c.ask_in_hand.ensures.seat in
    let told = asked_as c.args.self.now.id.slots c.args.shard c.args.op.now c.try_hold.new.seat.me.0.seen q.me c.in-Ok-Some.field-0 (Some (c.in-Ok-Some.reply, c.in-Ok-Some.shift)) c.in-Ok-Some.field-0-is c.in-Ok-Some.ensures.asked in
    record { held = held_still _ (record { shard = c.args.shard; word = c.in-Ok.word }) c.try_hold.new.seat q e.1 e.0 c.in-Ok.ensures.found.0.1 (told.2 (sym c.is_change.ensures ∙ c.if-is_change.false)) }

pub release-requires-in-Err-ask_in_hand : goal.release-requires-in-Err-ask_in_hand
release-requires-in-Err-ask_in_hand c = let e = c.ask_in_hand.ensures.seat in
    record { held = held_still _ (record { shard = c.args.shard; word = c.in-Ok.word }) c.try_hold.new.seat c.ask_in_hand.new.seat e.1 e.0 c.in-Ok.ensures.found.0.1 c.in-Err-ask_in_hand.ensures.asked }
