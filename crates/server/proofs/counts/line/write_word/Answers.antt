use Rattle.std.proofs.lemmas.Result.{on_ok_weaker}
use Rattle.server.proofs.CountWords.{word_whole}
use Rattle.server.proofs.counts.line.write_word.Goals as goal

pub returns : goal.returns
returns g c = on_ok_weaker c.write-2.result (word_whole _ _ _ _ _ c.args.number c.in_ok-write.ensures.bytes c.in_ok-write_name.ensures) c.write-2.ensures.bytes
