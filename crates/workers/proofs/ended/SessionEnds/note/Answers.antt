use Rattle.std.proofs.Common.{[], ◌∷◌, sym, subst, Result, ℕ}
use Rattle.workers.specs.Ended.{Notes}
use Rattle.workers.specs.declared.ended.SessionFault.{SessionFault}
use Rattle.workers.proofs.EndLemmas.{notes_ok}
use Rattle.workers.proofs.ended.SessionEnds.note.Goals as goal

pub returns-in-Ok-clause-noted : goal.returns-in-Ok-clause-noted
returns-in-Ok-clause-noted c =
    subst (λ (end : Result ℕ SessionFault). Notes (end ∷ []) c.args.self.now c.count.new.self) (sym c.in-Ok.is)
    (notes_ok c.in-Ok.field-0 c.args.self.now c.count.new.self c.count.ensures)
