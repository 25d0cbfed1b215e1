-- A desk and what is remembered of the last fetch-all, at a table by its two names.
use Rattle.std.proofs.Common.{◌≡◌, ℕ, Option, sym, ap, ◌∙◌, subst}
use Rattle.std.specs.Prelude.{Result}
use Rattle.atomic_table.specs.Seated.{TableId}
use Rattle.map_core.specs.declared.op.Op.{Op}
use Rattle.map_core.specs.declared.reply.Reply.{Reply}
use Rattle.map_core.specs.declared.reply.AskError.{AskError}
use Rattle.shard_store.specs.declared.change.Seen.{Seen}
use Rattle.shard_store.specs.declared.desk.Desk.{Desk}
use Rattle.shard_store.specs.declared.last_all.LastAll.{LastAll}
use Rattle.shard_store.specs.Private.Desk.{IsReady}
use Rattle.shard_store.specs.Private.LastAll.{IsLastAll}
use Rattle.shard_store.specs.Private.Seat.{ShardAnswer}
use Rattle.shard_store.specs.Changes.{own_count}
use Rattle.shard_store.specs.Promise.{IsLater}
use Rattle.shard_store.proofs.LastAll.{all_answered_at, all_later}
use Rattle.shard_store.proofs.Shown.{answer_ranges}

pub ready_at : (z z' : TableId) (d : Desk) → z ≡ z' → IsReady z d → IsReady z' d
ready_at z z' d e ready = subst (λ (k : TableId). IsReady k d) e ready

pub all_at_table : (z z' : TableId) (s : Seen) (all : Option LastAll) → z ≡ z' → IsLastAll z.slots s.log all → IsLastAll z'.slots s.log all
all_at_table z z' s all e told = subst (λ (k : TableId). IsLastAll k.slots s.log all) e told

-- what a pass keeps, by its desk: what it read, how many numbers it has, and what its last fetch-all was answered
abbrev pub Keeps : Desk → ℕ → Option LastAll → Type 0
Keeps d numbers all = IsReady d.seat.table_id d × (own_count d.seat.me.0.seen.ranges ≡ numbers) × IsLastAll d.seat.table_id.slots d.seat.me.0.seen.log all

-- it is kept after more was seen
pub later_keeps : (z : TableId) (s : Seen) (d : Desk) (numbers : ℕ) (all : Option LastAll) → IsReady z d → IsLater d.seat.me.0.seen s → own_count s.ranges ≡ numbers → IsLastAll z.slots s.log all → Keeps d numbers all
later_keeps z s d numbers all ready l many told = let u = d.seat.me.0.seen in
    (ready_at z d.seat.table_id d (sym ready.0.0) ready, ap own_count l.1 ∙ many, all_at_table z d.seat.table_id u all (sym ready.0.0) (all_later z.slots s u all l told))

-- and after an answer
pub answer_keeps : (z : TableId) (op : Op) (s : Seen) (answer : Result Reply AskError) (d : Desk) (numbers : ℕ) (all : Option LastAll) → IsReady z d → ShardAnswer z.slots op s answer d.seat.me.0.seen → own_count s.ranges ≡ numbers → IsLastAll z.slots s.log all
    → Keeps d numbers all
answer_keeps z op s answer d numbers all ready a many told = let u = d.seat.me.0.seen in
    (ready_at z d.seat.table_id d (sym ready.0.0) ready, ap own_count (answer_ranges z.slots op s u answer a) ∙ many, all_at_table z d.seat.table_id u all (sym ready.0.0) (all_answered_at z.slots op s u answer all a told))
