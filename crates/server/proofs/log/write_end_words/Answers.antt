use Rattle.std.proofs.lemmas.Result.{on_ok_weaker}
use Rattle.server.proofs.LogLines.{fault_words_whole}
use Rattle.server.proofs.log.write_end_words.Goals as goal

pub returns-in-Err : goal.returns-in-Err
returns-in-Err g c =
    on_ok_weaker c.write-in-Err.result (fault_words_whole _ _ c.number.result c.in-Err.fault c.args.end.now c.in-Err.is c.number.ensures) c.write-in-Err.ensures.bytes
