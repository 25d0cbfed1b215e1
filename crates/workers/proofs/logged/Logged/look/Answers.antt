use Rattle.std.proofs.Common.{◌≡◌, Some, subst, ◌∙◌}
use Rattle.map_core.specs.Name.{Name}
use Rattle.map_core.specs.declared.op.Op.TheVariants.{Get}
use Rattle.shard_store.specs.Seated.{SeatedAnswer}
use Rattle.workers.specs.Private.Names.{changed_name}
use Rattle.workers.proofs.LoggedLaws.{looked_later, patient_answer}
use Rattle.workers.proofs.LogLaws.{if_ok_is, same_some}
use Rattle.workers.proofs.logged.Logged.look.Goals as goal

pub returns-clause-later : goal.returns-clause-later
returns-clause-later g c =
    let old = c.args.self.now.patient in
    let new = c.ask.new.self.ask in
    let domain = c.in_ok-copy.copy in
    let answered = patient_answer old.retries old.ask (Get domain) c.ask.result new c.ask.ensures.answered.1 in
    (answered.0, looked_later old.ask.store domain old.ask.seen new.seen c.ask.result answered.1)

pub returns-clause-looked : goal.returns-clause-looked
returns-clause-looked g c =
    let old = c.args.self.now.patient in
    let new = c.ask.new.self.ask in
    let copy = c.in_ok-copy.copy in
    let named : Some c.in-Some.domain.now ≡ changed_name c.args.op.now = c.in-Some.ensures in
    if_ok_is c.found_by.result _ c.found_by.ensures (λ before is domain wanted. record {
      answer = c.ask.result;
      asked = subst (λ (d : Name). SeatedAnswer old.ask (Get d) c.ask.result new) (c.in_ok-copy.ensures ∙ same_some (named ∙ wanted))
          (patient_answer old.retries old.ask (Get copy) c.ask.result new c.ask.ensures.answered.1);
      found = is;
    })
