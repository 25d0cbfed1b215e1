-- What a seat knows and has in hand, from step to step.
use Rattle.std.specs.Prelude.{◌≡◌, ℕ, ◌*◌, ◌/◌, ◌<◌, ◌≤◌, true, false, List, [], ◌∷◌, ◌++◌, Option, Some, None, Result, Ok, Err, MatchResult}
use Rattle.std.specs.declared.alloc.AllocError.{AllocError}
use Rattle.std.specs.Arc.{arc_value}
use Rattle.std.specs.FinMap as finite
use Rattle.std.specs.declared.sync.Arc.{Arc}
use Rattle.atomic_table.specs.Table.{Me}
use Rattle.atomic_table.specs.Seated.{TableId}
use Rattle.atomic_table.specs.declared.shared.Seat.{Seat}
use Rattle.map_core.specs.declared.op.Op.{Op}
use Rattle.map_core.specs.declared.reply.Reply.{Reply}
use Rattle.map_core.specs.declared.reply.AskError.{AskError}
use Rattle.map_core.specs.Reply.{is_change}
use Rattle.map_core.specs.Table.{standing}
use Rattle.map_core.specs.PlainMap.{PlainMap, ask, name_of, shard_of, standing_for}
use Rattle.shard_store.specs.declared.change.Change.{Change}
use Rattle.shard_store.specs.declared.change.Seen.{Seen}
use Rattle.shard_store.specs.declared.change.View.{View}
use Rattle.shard_store.specs.declared.holds.Hold.{Hold}
use Rattle.shard_store.specs.declared.last_reads.LastRead.{LastRead}
use Rattle.shard_store.specs.declared.one_shard.Attempt.{Attempt}
use Rattle.shard_store.specs.declared.one_shard.Attempt.TheVariants.{Replied, Blocked}
use Rattle.shard_store.specs.declared.tally.Shift.{Shift}
use Rattle.shard_store.specs.Changes.{after, change_of, count, Extends, own_count, own_number}
use Rattle.shard_store.specs.Numbers.{IsPart}
use Rattle.shard_store.specs.Promise.{IsLater, IsAlone, IsReply, IsRefusedAt}
use Rattle.shard_store.specs.Rule.{SlotValue}
use Rattle.shard_store.specs.Private.LastReads.{IsLastRead}

-- a word and a slot for each shard, of which there are 1 to 256
abbrev pub IsPaired : TableId → Type 0
IsPaired z = (z.words ≡ z.slots) × (0 < z.slots) × (z.slots ≤ 256)

-- the shard is one of the table's, and the word is what it has after these changes while no pass holds it
abbrev pub IsWordOf : TableId → Hold → Seen → Type 0
IsWordOf z hold s = (hold.shard < z.slots) × (hold.word ≡ 2 * count z.slots s.log hold.shard)

-- the shard is one of the table's, and is the operation's home
abbrev pub IsAtHome : TableId → Op → ℕ → Type 0
IsAtHome z op shard = (shard < z.slots) × (shard_of z.slots op ≡ Some shard)

module _ {Z : Type 0} where
  -- the seat holds no shard, and has a number
  abbrev pub IsIdle : Me (SlotValue Z) View → Type 0
  IsIdle m = (m.1 ≡ []) × (m.0.joined ≡ []) × (m.0.held ≡ None) × (0 < own_count m.0.seen.ranges)

  -- the seat is at the table with this identity, and holds no shard
  abbrev pub IsFree : TableId → Seat (SlotValue Z) View → Type 0
  IsFree z p = (p.table_id ≡ z) × IsIdle p.me

  -- it has seen more since then, and holds no shard
  abbrev pub HasLooked : TableId → Seat (SlotValue Z) View → Seat (SlotValue Z) View → Type 0
  HasLooked z p q = IsFree z q × IsLater q.me.0.seen p.me.0.seen

  -- the seat holds the shard, of n, and has in hand the version after these changes
  abbrev pub HasInHand : ℕ → ℕ → List Change → Me (SlotValue Z) View → Type 0
  HasInHand n shard log m = (version : Arc PlainMap Z) × (m.1 ≡ (shard, Some version) ∷ []) × IsPart n shard log (arc_value version)
      × (m.0.joined ≡ []) × (m.0.held ≡ Some shard) × (0 < own_count m.0.seen.ranges)

  -- the seat, at the table with this identity, holds the shard, of which this is the word, and has its version in hand
  abbrev pub Holds : TableId → Hold → Seat (SlotValue Z) View → Type 0
  Holds z hold p = (p.table_id ≡ z) × IsWordOf z hold p.me.0.seen × HasInHand z.slots hold.shard p.me.0.seen.log p.me

-- What a word says that was found in place of the one expected: others have the shard or changed it, and the word
-- counts the changes that are seen now.
abbrev pub Missed : ℕ → ℕ → Seen → ℕ → Seen → Type 0
Missed n shard s found t = (¬ IsAlone s) × (found / 2 ≡ count n t.log shard)

-- the change that the operation would make of what was seen
abbrev pub change_by : Op → Seen → Change
change_by op s = change_of op s.log (own_number s.ranges)

-- the operation's change was added to a list that extends what was seen, and has no other new change of the shard
abbrev pub Writes : ℕ → ℕ → Op → Seen → Seen → Type 0
Writes n shard op s t = (list : List Change) × Extends list s × (count n list shard ≡ count n s.log shard)
    × (t.log ≡ list ++ change_by op s ∷ []) × (t.ranges ≡ s.ranges)

-- the reply, and what was read for it that may be remembered
abbrev pub IsReplyRead : ℕ → ℕ → Op → Seen → Reply → Option LastRead → Seen → Type 0
IsReplyRead n shard op s reply read t = IsReply op s reply t × IsLastRead n shard t.log read

-- what a shard's answer says, of n
abbrev pub ShardAnswer : ℕ → Op → Seen → Result Reply AskError → Seen → Type 0
ShardAnswer n op s answer t = MatchResult answer (λ reply. IsReply op s reply t) (IsRefusedAt n op s t)

-- The shift of the operation's change of what was seen: from what stands under its name to what it leaves there. Without a change both are the same.
abbrev pub Shifts : Op → Seen → Reply → Shift → Type 0
Shifts op s reply shift = (is_change reply ≡ true → (shift.before ≡ standing (finite.get (after s.log) (name_of op))) × (shift.after ≡ standing (change_by op s).now))
    × (is_change reply ≡ false → shift.before ≡ shift.after)

-- the same of the last change of the log, if the reply tells of one
abbrev pub ShiftsLast : List Change → Reply → Shift → Type 0
ShiftsLast log reply shift = (is_change reply ≡ true → (list : List Change) × (change : Change) × (log ≡ list ++ change ∷ [])
    × (shift.before ≡ standing (finite.get (after list) change.name)) × (shift.after ≡ standing change.now))
    × (is_change reply ≡ false → shift.before ≡ shift.after)

-- what one try of an operation gave
abbrev pub Tried : ℕ → ℕ → Op → Seen → Seen → Attempt → Type 0
Tried n shard op s t (Replied reply read shift) = IsReplyRead n shard op s reply read t × ShiftsLast t.log reply shift
Tried n shard op s t (Blocked found) = IsLater t s × Missed n shard s found t

-- What a version says of the operation, and what it is then. Nothing is said if others own it, or if memory was refused.
abbrev pub AsksAlone : Op → PlainMap → Result (Option (Reply × Shift)) AllocError → PlainMap → Type 0
AsksAlone op old (Ok (Some found)) new = (found.0 ≡ (ask old op).reply) × (new ≡ (ask old op).map) × (found.1.before ≡ standing_for old op) × (found.1.after ≡ standing_for new op)
AsksAlone op old (Ok None) new = new ≡ old
AsksAlone op old (Err e) new = new ≡ old

module _ {Z : Type 0} where
  -- What the version in hand says of the operation, and what is in hand then
  abbrev pub AsksInHand : ℕ → ℕ → Op → Seen → Result (Option (Reply × Shift)) AllocError → Me (SlotValue Z) View → Type 0
  AsksInHand n shard op s (Ok (Some found)) m = (found.0 ≡ (ask (after s.log) op).reply)
      × (is_change found.0 ≡ true → HasInHand n shard (s.log ++ change_by op s ∷ []) m) × (is_change found.0 ≡ false → HasInHand n shard s.log m)
      × Shifts op s found.0 found.1
  AsksInHand n shard op s (Ok None) m = HasInHand n shard s.log m
  AsksInHand n shard op s (Err e) m = HasInHand n shard s.log m
