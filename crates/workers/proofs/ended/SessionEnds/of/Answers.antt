use Rattle.std.proofs.Common.{List, Result, sym, ap, ◌∙◌, take}
use Rattle.std.specs.Prelude.{ℕ}
use Rattle.workers.specs.Ended.{kept_of}
use Rattle.workers.specs.declared.ended.SessionFault.{SessionFault}
use Rattle.workers.proofs.EndLemmas.{one_more}
use Rattle.workers.proofs.ended.SessionEnds.of.Goals as goal

pub loop-end-preserved : goal.loop-end-preserved
loop-end-preserved c =
    c.in_ok-note.ensures.noted (take c.loop-end.end-index c.args.ends.now) c.loop-end.invariant
    ∙ ap (λ (l : List (Result ℕ SessionFault)). kept_of l) (sym (one_more c.args.ends.now c.loop-end.end-index _ c.loop-end-test.true))
