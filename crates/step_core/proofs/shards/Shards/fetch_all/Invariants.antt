use Rattle.std.proofs.Common.{length}
use Rattle.map_core.specs.Op.{known_of}
use Rattle.step_core.proofs.Alone.{IsAt, gathering, confirming}
use Rattle.step_core.proofs.shards.Shards.fetch_all.Given as goal

abbrev pub invariant-loop-shard : goal.invariant-loop-shard
invariant-loop-shard l = IsAt (length l.self) (known_of l.op) l.task (gathering l.self l.shard-index)

abbrev pub invariant-loop-shard-2 : goal.invariant-loop-shard-2
invariant-loop-shard-2 l = IsAt (length l.self) (known_of l.op) l.task (confirming (known_of l.op) l.self l.shard-index)
