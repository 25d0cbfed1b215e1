use Rattle.std.proofs.lemmas.Result.{on_ok_weaker}
use Rattle.server.proofs.LogLines.{turned_away_line_whole}
use Rattle.server.proofs.log.write_turned_away.Goals as goal

pub returns : goal.returns
returns g c =
    on_ok_weaker c.writeln.result
    (turned_away_line_whole _ _ _ _ c.args.worker c.args.client c.args.count c.in_ok-write_who.ensures c.in_ok-write.ensures.bytes)
    c.writeln.ensures.bytes
