use Rattle.std.proofs.Common.{◌≡◌, [], ◌∷◌, ◌++◌, sym, ap, subst, ◌∙◌}
use Rattle.std.specs.Prelude.{Bool}
use Rattle.shard_store.specs.declared.change.Seen.{Seen}
use Rattle.shard_store.specs.Seated.{SeatedAnswer}
use Rattle.workers.specs.Gate.{GatedAnswer}
use Rattle.workers.specs.Connection.{ConnectionView, opened}
use Rattle.workers.specs.Arrivals.{Brings, IsToStop}
use Rattle.workers.specs.Places.{ServedAll}
use Rattle.workers.specs.Workers.{IsFurther, AtWork, at_work, WorkerAnswer}
use Rattle.workers.proofs.KeptByTurns.{sessions_keep}
use Rattle.workers.proofs.SimulatedTurns.{sessions_seen}
use Rattle.workers.proofs.PassLaws.{StaysSeated, seated_same, seated_then, seated_behind}
use Rattle.workers.proofs.Seats.{gated_as_seated}
use Rattle.workers.proofs.lasting.work.Goals as goal

pub returns : goal.returns
returns g c =
    let opens = g.G.Gate.opens c.args.gate.now in
    let number = c.args.task.number in
    let limits = c.args.common.now.limits in
    let begun = c.new-port.result.ask in
    let is = c.new-port.ensures.ask in
    let begun_ask = ap (λ gated. gated.ask) is ∙ c.new.ensures.ask in
    let done = c.serve_arrivals.new.ask.ask in
    let served = (sessions_seen _ (WorkerAnswer opens number) (λ s. (s.ask.patient.ask, s.calls)) (λ s. (s.worker ≡ number) × (s.gate.now ≡ c.args.gate.now))
    (λ s op answer t stays a. (
      (a.0 ∙ stays.0, a.1 ∙ stays.1),
      (
        a.2,
        subst (λ n. GatedAnswer SeatedAnswer (opens n t.calls) s.ask.patient.ask op answer t.ask.patient.ask) stays.0
            (subst (λ gate. GatedAnswer SeatedAnswer (g.G.Gate.opens gate s.worker t.calls) s.ask.patient.ask op answer t.ask.patient.ask) stays.1
            (gated_as_seated (λ logged. logged.patient.ask) (λ old asked told new answered. answered.1.answered) (g.G.Gate.opens s.gate.now s.worker t.calls) s.ask op answer t.ask a.3)),
      ),
    )) _ _ _ _ _ (ap (λ gated. gated.worker) is ∙ c.new.ensures.worker, ap (λ gated. gated.gate.now) is ∙ c.new.ensures.gate) c.in_ok-ends.ensures.0).1 in
    let kept = sessions_keep _ (λ s t. StaysSeated s.0 t.0) (λ s. seated_same s.0) (λ s t u p q. seated_then s.0 t.0 u.0 p q)
    (λ s op answer t a. seated_behind _ s.0 op answer t.0 a.1) _ _ _ _ _ served.0 in
    let begins_at = begun.ask.patient.ask in
    let ends_at = done.ask.patient.ask in
    let start_store : begins_at.store ≡ c.args.store.now =
    ap (λ logged. logged.patient.ask.store) begun_ask ∙ c.new-logged.ensures.store in
    let start_seen : begins_at.seen ≡ c.args.task.pass.seen =
    ap (λ logged. logged.patient.ask.seen) begun_ask ∙ c.new-logged.ensures.seen in
    let store_is : ends_at.store ≡ c.args.store.now = kept.0 ∙ start_store in
    let own = c.into_pass.ensures.own ∙ ap (λ s. s.id) store_is in
    let far = subst (λ (x : Seen). IsFurther x c.args.task.pass.seen) (sym c.into_pass.ensures.seen)
    (subst (λ (y : Seen). IsFurther ends_at.seen y) start_seen kept.1) in
    let store = c.args.store.now in
    let start : at_work begins_at.store begins_at.seen begun.calls ≡ at_work store c.args.task.pass.seen 0 =
    ap (λ x. at_work x begins_at.seen begun.calls) start_store
    ∙ (ap (λ x. at_work store x begun.calls) start_seen ∙ ap (at_work store c.args.task.pass.seen) (ap (λ gated. gated.calls) is ∙ c.new.ensures.calls)) in
    let end : at_work ends_at.store ends_at.seen done.calls ≡ at_work store c.into_pass.result.seen done.calls =
    ap (λ x. at_work x ends_at.seen done.calls) store_is ∙ ap (λ x. at_work store x done.calls) (sym c.into_pass.ensures.seen) in
    let news = c.in_ok-ends.ensures.0.news in
    let all : AtWork → AtWork → Type 0 = λ x y. (b : ServedAll (WorkerAnswer opens number) limits.patience limits.turns c.in_ok-ends.ends x y) × (b.news ≡ news) in
    let both : all (at_work store c.args.task.pass.seen 0) (at_work store c.into_pass.result.seen done.calls) =
    subst (λ s. all s (at_work store c.into_pass.result.seen done.calls)) start (subst (λ s. all (begins_at, begun.calls) s) end served) in
    let begins : Bool → g.row.V-End.Denot → ConnectionView = λ reads_only end. opened reads_only limits.turns (g.V.End.Stream.may end) (g.V.End.Stream.left end) (g.V.End.Stream.held end) in
    let follows = subst (λ l. Brings begins g.V.Arrivals.comes (l ++ IsToStop ∷ []) c.args.task.arrivals c.serve_arrivals.new.arrivals) (sym both.1) c.in_ok-ends.ensures.1 in
    (record { own = own; further = far; calls = done.calls; served = both.0 }, (c.serve_arrivals.new.arrivals, follows))
