use Rattle.std.proofs.Common.{◌≡◌, Result, Ok, Err, OnOk, sym}
use Rattle.map_core.specs.declared.reply.Reply.{Reply}
use Rattle.map_core.specs.declared.reply.AskError.{AskError}
use Rattle.map_core.specs.PlainMap.{PlainMap}
use Rattle.map_core.proofs.MapLaws.{fetch_keeps}
use Rattle.step_core.specs.Shards.{map_of}
use Rattle.step_core.proofs.shards.Shards.ask.Goals as goal

always : (r : Result Reply AskError) (m n : PlainMap) → m ≡ n → OnOk r (m ≡ n)
always (Ok x) m n is = is
always (Err e) m n is = tt

pub returns-in-None-clause-left : goal.returns-in-None-clause-left
returns-in-None-clause-left c = always c.fetch_all-answer.result _ _ (sym (fetch_keeps c.len.result (map_of c.args.self.now) c.args.op (sym c.in-None.ensures.shard)))
