use Rattle.std.proofs.Common.{◌≡◌, ◌∷◌, ◌++◌, [], ◌≤◌, List, length, sym, ap, ◌∙◌, subst, take, arith}
use Rattle.std.proofs.lemmas.List.{length-append}
use Rattle.std.specs.Prelude.{not}
use Rattle.workers.specs.Ended.{EndsView, most_faults}
use Rattle.workers.specs.declared.ended.SessionFault.{SessionFault}
use Rattle.workers.proofs.EndLemmas.{take_all, take_full, view}
use Rattle.workers.proofs.ended.SessionEnds.keep.Goals as goal

pub returns-in_ok-push-clause-kept : goal.returns-in_ok-push-clause-kept
returns-in_ok-push-clause-kept c =
    let inside = c.self.inside in
    let all : List SessionFault = inside.faults.items ++ c.args.fault ∷ [] in
    let few : length all ≤ most_faults = omega (arith, length-append inside.faults.items (c.args.fault ∷ []), c.if-len-lt-MOST_FAULTS.true, c.len.ensures) in
    subst (λ (v : EndsView). view inside.begun (not inside.has_missed) c.push.new.self.items ≡ record v { faults = take most_faults (v.faults ++ c.args.fault ∷ []) }) c.self.view_is
    (ap (λ (l : List SessionFault). view inside.begun (not inside.has_missed) l) (c.in_ok-push.ensures.items ∙ sym (take_all most_faults all few)))

pub returns-else-len-lt-MOST_FAULTS-clause-kept : goal.returns-else-len-lt-MOST_FAULTS-clause-kept
returns-else-len-lt-MOST_FAULTS-clause-kept c =
    let inside = c.self.inside in
    let many : most_faults ≤ length inside.faults.items = omega (arith, c.if-len-lt-MOST_FAULTS.false, c.len.ensures) in
    subst (λ (v : EndsView). v ≡ record v { faults = take most_faults (v.faults ++ c.args.fault ∷ []) }) c.self.view_is
    (ap (λ (l : List SessionFault). view inside.begun (not inside.has_missed) l) (sym (take_full most_faults inside.faults.items (c.args.fault ∷ []) many c.self.invariant)))
