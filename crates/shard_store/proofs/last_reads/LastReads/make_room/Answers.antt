use Rattle.std.proofs.Common.{List, Option, sym, subst}
use Rattle.shard_store.specs.declared.last_reads.LastRead.{LastRead}
use Rattle.shard_store.specs.Private.LastReads.{AreLastReads}
use Rattle.shard_store.proofs.LastReads.{reads_room}
use Rattle.shard_store.proofs.last_reads.LastReads.make_room.Goals as goal

pub returns-in_err-push : goal.returns-in_err-push
returns-in_err-push c = λ n log told. subst (λ (x : List (Option LastRead)). AreLastReads n log x) (sym c.in_err-push.ensures.items) (c.loop.invariant n log told)

pub loop-preserved : goal.loop-preserved
loop-preserved c = λ n log told. reads_room n log c.loop.self.by_shard.items c.push.new.self.items c.in_ok-push.ensures.items (c.loop.invariant n log told)
