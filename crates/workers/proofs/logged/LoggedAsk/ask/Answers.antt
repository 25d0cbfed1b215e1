use Rattle.std.proofs.Common.{◌≡◌, false, true, None, Some, refl, sym, ap, subst, ◌∙◌, arith}
use Rattle.std.specs.Prelude.{IfSome}
use Rattle.map_core.specs.declared.op.Op.{Op}
use Rattle.shard_store.specs.Seated.{SeatedAnswer}
use Rattle.workers.specs.Log.{StoodBefore, IsTold, change_told, change_view}
use Rattle.workers.proofs.LoggedLaws.{patient_answer, continued}
use Rattle.workers.proofs.LogLaws.{off_logged, stood_before, told_as}
use Rattle.workers.proofs.logged.LoggedAsk.ask.Goals.{in-Some, in_default-change_by}
use Rattle.workers.proofs.logged.LoggedAsk.ask.Goals as goal

pub returns-then-not-is_on : goal.returns-then-not-is_on
returns-then-not-is_on g c =
    let old = c.args.self.now in
    let off : false ≡ g.L.Log.wants old.log = grind (arith, c.is_on.ensures, c.if-not-is_on.true) in
    let answered = patient_answer old.patient.retries old.patient.ask c.args.op c.ask-plain.result c.ask-plain.new.self.ask c.ask-plain.ensures.answered.1 in
    record {
      answered = (refl, off_logged g.L.Log.tells g.L.Log.wants old.worker (old.patient.ask, old.log) (c.ask-plain.new.self.ask, old.log) c.args.op c.ask-plain.result off answered refl);
    }

pub returns : goal.returns
returns g c =
    let tells = g.L.Log.tells in
    let op = c.args.op in
    let copy = c.in-Ok.copy in
    let old = c.args.self.now in
    let mid = c.look.new.self in
    let new = c.ask-answer.new.self in
    let end = c.match-change_by.self in
    let answer = c.ask-answer.result in
    let before = c.in-Ok-look.before in
    let same = c.in-Ok-look.ensures.same in
    let later = c.in-Ok-look.ensures.later in
    let asked = patient_answer mid.patient.retries mid.patient.ask op answer new.ask c.ask-answer.ensures.answered.1 in
    let wanted = g.L.Log.wants old.log in
    let on : true ≡ wanted = grind (arith, c.is_on.ensures, c.if-not-is_on.false) in
    let made = change_told before op answer in
    let made_is : change_told before copy answer ≡ made = ap (λ (o : Op). change_told before o answer) c.in-Ok.ensures in
    let ends : (end.worker ≡ old.worker) × (new ≡ end.patient) × IsTold tells wanted old.worker made old.log end.log =
    elim c.match-change_by.branch [
      | in-Some w ↦ (
        ap (λ s. s.worker) w.self-is ∙ same.1,
        sym (ap (λ s. s.patient) w.self-is),
        told_as tells wanted old.worker mid.worker made (Some (change_view w.in-Some.change)) old.log mid.log end.log w.changed.new.self
            on same.1 (w.in-Some.ensures ∙ made_is) same.0 (sym (ap (λ s. s.log) w.self-is)) w.changed.ensures,
      )
      | in_default-change_by w ↦ (
        ap (λ s. s.worker) w.self-is ∙ same.1,
        sym (ap (λ s. s.patient) w.self-is),
        told_as tells wanted old.worker mid.worker made None old.log mid.log end.log mid.log
            on same.1 (w.in_default-change_by.ensures ∙ made_is) same.0 (sym (ap (λ s. s.log) w.self-is)) refl,
      )
    ] in
    record {
      answered = (
        ends.0,
        record {
          answered = subst (λ patient. SeatedAnswer old.patient.ask op answer patient.ask) ends.1
              (continued old.patient.ask mid.patient.ask new.ask op answer later.0 later.1 asked);
          before = before;
          stood = λ told. subst (λ patient. IfSome made (StoodBefore op answer old.patient.ask patient.ask)) ends.1
              (stood_before before copy op answer old.patient.ask mid.patient.ask new.ask c.in-Ok.ensures c.in-Ok-look.ensures.looked asked);
          told = ends.2;
        },
      );
    }
