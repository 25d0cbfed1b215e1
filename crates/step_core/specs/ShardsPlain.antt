-- Shards answer as the plain map that they are together.
use Rattle.std.specs.Prelude.{◌≡◌, List, Some, Result, Ok, Err}
use Rattle.std.proofs.Common.{ap, subst}
use Rattle.map_core.specs.declared.op.Op.{Op}
use Rattle.map_core.specs.declared.reply.Reply.{Reply}
use Rattle.map_core.specs.declared.reply.AskError.{AskError}
use Rattle.map_core.specs.PlainMap.{PlainMap}
use Rattle.map_core.specs.Ask.{PlainAnswer}
use Rattle.step_core.specs.Shard.{ShardVersion}
use Rattle.step_core.specs.Shards.{map_of, ShardsAnswer}

answered_so : (old : List ShardVersion) (op : Op) (result : Result Reply AskError) (new : List ShardVersion) → ShardsAnswer old op result new → PlainAnswer (map_of old) op result (Some (map_of new))
answered_so old op (Ok reply) new h = (h.0, ap Some h.1)
answered_so old op (Err e) new h = ap (λ (versions : List ShardVersion). Some (map_of versions)) h.1

only : (old m : PlainMap) → Some old ≡ Some m → old ≡ m
only old m e = cc

pub shards_answer_plainly : (old : List ShardVersion) (op : Op) (result : Result Reply AskError) (new : List ShardVersion) (m : PlainMap) → Some (map_of old) ≡ Some m → ShardsAnswer old op result new
    → PlainAnswer m op result (Some (map_of new))
shards_answer_plainly old op result new m same h = subst (λ (x : PlainMap). PlainAnswer x op result (Some (map_of new))) (only (map_of old) m same) (answered_so old op result new h)
