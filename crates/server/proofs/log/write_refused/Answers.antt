use Rattle.std.proofs.lemmas.Result.{on_ok_weaker}
use Rattle.server.proofs.LogLines.{refusal_line_whole}
use Rattle.server.proofs.log.write_refused.Goals as goal

pub returns : goal.returns
returns g c =
    on_ok_weaker c.writeln.result
    (refusal_line_whole _ _ _ _ _ c.args.worker c.args.client c.args.refused.now.domain.now c.args.refused.now.refusal
    c.in_ok-write_who.ensures c.in_ok-write.ensures.bytes c.in_ok-write_refusal.ensures)
    c.writeln.ensures.bytes
