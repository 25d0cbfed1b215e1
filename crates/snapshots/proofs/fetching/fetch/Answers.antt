use Rattle.std.proofs.Common.{Ok, subst}
use Rattle.map_core.specs.declared.op.Op.{Op}
use Rattle.client.specs.Answer.{MayAnswer}
use Rattle.snapshots.proofs.FetchLemmas.{only_fetched, ok_may}
use Rattle.snapshots.proofs.fetching.fetch.Goals as goal

pub unreachable-requires : goal.unreachable-requires
unreachable-requires g c =
    let may = subst (λ (o : Op). MayAnswer o (Ok c.in-Ok.reply)) c.fetch_op.ensures (ok_may _ _ _ c.in-Ok.reply c.in-Ok.ensures.answered) in
    only_fetched c.args.known c.in-Ok.reply may c.in-None.ensures
