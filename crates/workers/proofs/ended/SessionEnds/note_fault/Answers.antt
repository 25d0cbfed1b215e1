use Rattle.std.proofs.Common.{◌≡◌, [], ◌∷◌, ◌++◌, take, sym, ap, subst, false, Err}
use Rattle.workers.specs.Ended.{EndsView, Notes, most_faults}
use Rattle.workers.specs.declared.ended.SessionFault.{SessionFault}
use Rattle.workers.proofs.EndLemmas.{notes_front, notes_listen, view}
use Rattle.workers.proofs.ended.SessionEnds.note_fault.Goals as goal

pub returns-in-Front-clause-noted : goal.returns-in-Front-clause-noted
returns-in-Front-clause-noted c =
    subst (λ (fault : SessionFault). Notes (Err fault ∷ []) c.args.self.now c.count.new.self) (sym c.in-Front.is)
    (notes_front c.in-Front.field-0 c.args.self.now c.keep.new.self c.count.new.self
    (subst (λ (fault : SessionFault). c.keep.new.self ≡ record c.args.self.now { faults = take most_faults (c.args.self.now.faults ++ fault ∷ []) }) c.in-Front.is c.in_ok-keep.ensures.kept) c.count.ensures)

pub returns-in-Listen-clause-noted : goal.returns-in-Listen-clause-noted
returns-in-Listen-clause-noted c =
    let inside = c.self.inside in
    subst (λ (fault : SessionFault). Notes (Err fault ∷ []) c.args.self.now (view inside.begun false inside.faults.items)) (sym c.in-Listen.is)
    (notes_listen c.args.self.now c.keep.new.self _
    (subst (λ (fault : SessionFault). c.keep.new.self ≡ record c.args.self.now { faults = take most_faults (c.args.self.now.faults ++ fault ∷ []) }) c.in-Listen.is c.in_ok-keep.ensures.kept)
    (ap (λ (v : EndsView). view v.begun false v.faults) c.self.view_is))
