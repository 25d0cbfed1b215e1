use Rattle.std.proofs.Common.{◌≡◌, refl}
use Rattle.std.specs.Prelude.{Result}
use Rattle.map_core.specs.declared.op.Op.TheVariants.{Get}
use Rattle.map_core.specs.declared.reply.Reply.{Reply}
use Rattle.map_core.specs.declared.reply.AskError.{AskError}
use Rattle.map_core.proofs.Shows.{shows_as}
use Rattle.shard_store.specs.Seated.{SeatedAnswer}
use Rattle.workers.specs.Log.{LoggedAnswer}
use Rattle.workers.specs.Retrying.{Retried}
use Rattle.workers.proofs.LoggedLaws.{patient_answer}
use Rattle.workers.proofs.LogLaws.{nothing_logged}
use Rattle.workers.proofs.logged.LoggedAsk.show_get.Goals as goal

pub returns : goal.returns
returns g c =
    let get = Get c.args.domain in
    let old = c.args.self.now in
    let new = c.show_get-shown.new.self in
    record {
      shown = shows_as g.V.Viewer.notes (λ (answer : Result Reply AskError). (new.retries ≡ old.patient.retries) × Retried SeatedAnswer old.patient.retries old.patient.ask get answer new.ask)
          (λ (answer : Result Reply AskError). (old.worker ≡ old.worker) × LoggedAnswer g.L.Log.tells g.L.Log.wants old.worker (old.patient.ask, old.log) get answer (new.ask, old.log))
          (g.V.Viewer.noted c.args.viewer.now) c.show_get-shown.result (g.V.Viewer.noted c.show_get-shown.new.viewer)
          (λ (answer : Result Reply AskError) (asked : (new.retries ≡ old.patient.retries) × Retried SeatedAnswer old.patient.retries old.patient.ask get answer new.ask). (
            refl,
            nothing_logged g.L.Log.tells g.L.Log.wants old.worker (old.patient.ask, old.log) (new.ask, old.log) get answer refl
                (patient_answer old.patient.retries old.patient.ask get answer new.ask asked.1) refl,
          ))
          c.show_get-shown.ensures.shown;
    }
