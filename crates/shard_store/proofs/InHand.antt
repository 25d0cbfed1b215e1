-- What an operation on the version in hand gives.
use Rattle.std.proofs.Common.{◌≡◌, ℕ, true, false, List, [], ◌∷◌, ◌++◌, get_or, Option, Some, None, sym, refl, ap, ◌∙◌, subst}
use Rattle.std.specs.Prelude.{Result, Ok, Err}
use Rattle.std.specs.Arc.{arc_value}
use Rattle.std.specs.Result.{IsErrAnd}
use Rattle.std.specs.declared.alloc.AllocError.{AllocError}
use Rattle.std.specs.declared.sync.Arc.{Arc}
use Rattle.atomic_table.specs.Table.{Me, rest}
use Rattle.map_core.specs.declared.op.Op.{Op}
use Rattle.map_core.specs.declared.reply.Reply.{Reply}
use Rattle.map_core.specs.Reply.{is_change}
use Rattle.map_core.specs.PlainMap.{PlainMap, ask, shard_of, partition}
use Rattle.map_core.proofs.MapLaws.{ask_keeps}
use Rattle.shard_store.specs.declared.change.Change.{Change}
use Rattle.shard_store.specs.declared.change.Seen.{Seen}
use Rattle.shard_store.specs.declared.change.View.{View}
use Rattle.shard_store.specs.declared.tally.Shift.{Shift}
use Rattle.shard_store.specs.Changes.{after}
use Rattle.shard_store.specs.Numbers.{IsPart}
use Rattle.shard_store.specs.Rule.{SlotValue}
use Rattle.shard_store.specs.Private.Seat.{HasInHand, Writes, AsksAlone, AsksInHand, change_by}
use Rattle.shard_store.specs.Promise.{IsReply}
use Rattle.shard_store.proofs.Shifts.{shifted}
use Rattle.shard_store.proofs.Promise.{bare, reply_of_part, part_after, later_self, answered_by_write}

-- the slot in hand holds this version now
module _ {Z : Type 0} (n i : ℕ) (m : Me (SlotValue Z) View) (hand : HasInHand n i m.0.seen.log m) where
  abbrev left_with : Arc PlainMap Z → Me (SlotValue Z) View
  left_with version = (m.0, (i, Some version) ∷ rest m.1)

  still_in_hand : (log : List Change) (version : Arc PlainMap Z) → IsPart n i log (arc_value version) → HasInHand n i log (left_with version)
  still_in_hand log version p = (version, ap (λ (l : List (ℕ × SlotValue Z)). (i, Some version) ∷ l) (bare m.1 (i, Some hand.0) hand.1), p, hand.3, hand.4, hand.5)

  -- the version that is found in the slot is the shard's part
  pub part_found : (slot : SlotValue Z) (version : Arc PlainMap Z) → m.1 ≡ (i, slot) ∷ rest m.1 → slot ≡ Some version → IsPart n i m.0.seen.log (arc_value version)
  part_found slot version there is = subst (λ (v : Arc PlainMap Z). IsPart n i m.0.seen.log (arc_value v)) same hand.2
    where
      same : hand.0 ≡ version
      same = let e : Some hand.0 ≡ Some version = ap (λ (l : List (ℕ × SlotValue Z)). (get_or l 0 (i, slot)).1) (sym hand.1 ∙ there) ∙ is in cc

  pub asked_in_hand : (op : Op) (old new : Arc PlainMap Z) (answer : Result (Option (Reply × Shift)) AllocError) → shard_of n op ≡ Some i → IsPart n i m.0.seen.log (arc_value old) → AsksAlone op (arc_value old) answer (arc_value new)
      → AsksInHand n i op m.0.seen answer (left_with new)
  asked_in_hand op old new (Ok (Some found)) at p a = let s : Seen = m.0.seen in (
    a.0 ∙ reply_of_part n i op s.log (arc_value old) at p,
    (λ (_ : is_change found.0 ≡ true). still_in_hand (s.log ++ change_by op s ∷ []) new (part_after n i op s (arc_value old) (arc_value new) at p a.1)),
    (λ (quiet : is_change found.0 ≡ false). still_in_hand s.log new (a.1 ∙ (ask_keeps (arc_value old) op (ap is_change (sym a.0) ∙ quiet) ∙ p))),
    shifted n i op s (arc_value old) (arc_value new) found.0 found.1 at p a.0 a.1 a.2 a.3,
  )
  asked_in_hand op old new (Ok None) at p a = still_in_hand m.0.seen.log new (a ∙ p)
  asked_in_hand op old new (Err _) at p a = still_in_hand m.0.seen.log new (a ∙ p)

-- so it is if memory was refused before it was asked
pub refused_in_hand : {Z : Type 0} (n i : ℕ) (op : Op) (s : Seen) (answer : Result (Option (Reply × Shift)) AllocError) (e : AllocError) (m : Me (SlotValue Z) View) → IsErrAnd answer (λ x. x ≡ e) → AsksInHand n i op s (Err e) m → AsksInHand n i op s answer m
refused_in_hand n i op s (Ok found) e m is a = absurd is
refused_in_hand n i op s (Err x) e m is a = a

-- what the operation left is in hand, by what the seat has seen
pub changed_holds : {Z : Type 0} (n i : ℕ) (op : Op) (s : Seen) (m : Me (SlotValue Z) View) → m.0.seen ≡ s → HasInHand n i (s.log ++ change_by op s ∷ []) m → HasInHand n i (m.0.seen.log ++ change_by op m.0.seen ∷ []) m
changed_holds {Z} n i op s m e h = subst (λ (x : Seen). HasInHand n i (x.log ++ change_by op x ∷ []) m) (sym e) h

-- the reply to a change that was made where the version is
pub answered_by_change : (n i : ℕ) (op : Op) (s t u : Seen) (reply : Reply) → shard_of n op ≡ Some i → t ≡ s → reply ≡ (ask (after s.log) op).reply → is_change reply ≡ true → Writes n i op t u → IsReply op s reply u
answered_by_change n i op s t u reply at e is write w = answered_by_write n i op s s u (partition n (after s.log) i) reply at (later_self s) refl (is ∙ sym (reply_of_part n i op s.log (partition n (after s.log) i) at refl)) write
    (subst (λ (x : Seen). Writes n i op x u) e w)
