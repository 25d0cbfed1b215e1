use Rattle.std.proofs.lemmas.Result.{on_ok_weaker}
use Rattle.workers.specs.Log.{change_view}
use Rattle.server.proofs.LogLines.{change_line_whole}
use Rattle.server.proofs.log.write_change.Goals as goal

pub returns : goal.returns
returns g c =
    on_ok_weaker c.writeln.result
    (change_line_whole _ _ _ _ _ _ _ c.args.worker c.args.client c.word_of-how.result.now (change_view c.args.change.now) c.word_of-how.ensures c.in_ok-write_who.ensures
    c.in_ok-write.ensures.bytes c.in_ok-write_before.ensures
    c.in_ok-write-2.ensures.bytes c.in_ok-write_state.ensures)
    c.writeln.ensures.bytes
