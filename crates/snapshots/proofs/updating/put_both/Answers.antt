use Rattle.std.proofs.Common.{refl}
use Rattle.snapshots.proofs.DeedLemmas.{on_err, cut_first}
use Rattle.snapshots.proofs.updating.put_both.Goals as goal

pub returns-in_err-files-clause-err : goal.returns-in_err-files-clause-err
returns-in_err-files-clause-err g c = on_err c.from_residual.result _ (cut_first _ _ _ _ refl)

pub returns-in_err-put-clause-err : goal.returns-in_err-put-clause-err
returns-in_err-put-clause-err g c = on_err c.from_residual-in_err-put.result _ (cut_first _ _ _ _ c.in_err-put.ensures.err)
