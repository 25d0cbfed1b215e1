-- A seat, and what was read there.
use Rattle.atomic_table.specs.Seated.{TableId}
use Rattle.shard_store.specs.declared.desk.Desk.{Desk}
use Rattle.shard_store.specs.Private.Seat.{IsFree}
use Rattle.shard_store.specs.Private.LastReads.{AreLastReads}

-- the desk is at the table with this identity, its seat holds no shard, and what was read there is remembered as it was
abbrev pub IsReady : TableId → Desk → Type 0
IsReady z d = IsFree z d.seat × AreLastReads z.slots d.seat.me.0.seen.log d.last_reads.by_shard.items
