use Rattle.std.proofs.Common.{◌≡◌, sym, ap, subst, ◌∙◌}
use Rattle.shard_store.specs.declared.change.Seen.{Seen}
use Rattle.shard_store.specs.Pass.{SeatedView}
use Rattle.workers.specs.Gate.{GatedAnswer}
use Rattle.workers.specs.Sessions.{ServedAll}
use Rattle.workers.specs.Workers.{IsFurther, AtWork, at_work, WorkerAnswer}
use Rattle.workers.proofs.KeptAlong.{sessions_keep}
use Rattle.workers.proofs.Simulated.{sessions_seen}
use Rattle.workers.proofs.PassLaws.{StaysSeated, seated_same, seated_then, seated_behind}
use Rattle.workers.proofs.Seats.{gated_as_seated}
use Rattle.workers.proofs.run.work.Goals as goal

pub returns : goal.returns
returns g c =
    let opens = g.G.Gate.opens c.args.gate.now in
    let number = c.args.worker.number in
    let seated = g.P.Seating.seated in
    let begun = c.new-ask.result in
    let done = c.serve_sessions.new.ask in
    let served = sessions_seen _ (WorkerAnswer opens number) (λ s. (seated s.ask, s.calls)) (λ s. (s.worker ≡ number) × (s.gate.now ≡ c.args.gate.now))
    (λ s op answer t stays a. (
      (a.0 ∙ stays.0, a.1 ∙ stays.1),
      (
        a.2,
        gated_as_seated seated g.met.P.Seating.answers_as_seated (opens number t.calls) s.ask op answer t.ask
            (subst (λ n. GatedAnswer g.P.Seat.Ask.answers (opens n t.calls) s.ask op answer t.ask) stays.0
            (subst (λ gate. GatedAnswer g.P.Seat.Ask.answers (g.G.Gate.opens gate s.worker t.calls) s.ask op answer t.ask) stays.1 a.3)),
      ),
    )) g.S.Reader.Read.remaining g.S.Writer.Write.contents g.S.Sessions.takes_back g.S.Sessions.comes _ _ _ (c.new-ask.ensures.worker, c.new-ask.ensures.gate) c.in_ok-results.ensures in
    let seen_all = served.1 in
    let kept = sessions_keep (WorkerAnswer opens number) (λ s t. StaysSeated s.0 t.0) (λ s. seated_same s.0) (λ s t u p q. seated_then s.0 t.0 u.0 p q)
    (λ s op answer t a. seated_behind _ s.0 op answer t.0 a.1) g.S.Reader.Read.remaining g.S.Writer.Write.contents g.S.Sessions.takes_back g.S.Sessions.comes _ _ _ seen_all in
    let start_is : seated begun.ask ≡ record { store = g.P.Seating.store c.args.place.now; seen = c.args.worker.pass.seen } =
    ap seated c.new-ask.ensures.ask ∙ c.seat.ensures.seated in
    let store = g.P.Seating.store c.args.place.now in
    let store_is : (seated done.ask).store ≡ store = kept.0 ∙ ap (λ (s : SeatedView). s.store) start_is in
    let own = c.leave.ensures.own ∙ ap (λ s. s.id) store_is in
    let far = subst (λ (x : Seen). IsFurther x c.args.worker.pass.seen) (sym c.leave.ensures.seen)
    (subst (λ (y : Seen). IsFurther (seated done.ask).seen y) (ap (λ (s : SeatedView). s.seen) start_is) kept.1) in
    let begins : (seated begun.ask, begun.calls) ≡ at_work store c.args.worker.pass.seen 0 =
    ap (λ (s : SeatedView). (s, begun.calls)) start_is ∙ ap (at_work store c.args.worker.pass.seen) c.new-ask.ensures.calls in
    let ends : (seated done.ask, done.calls) ≡ at_work store c.leave.result.seen done.calls =
    ap (λ x. at_work x (seated done.ask).seen done.calls) store_is ∙ ap (λ x. at_work store x done.calls) (sym c.leave.ensures.seen) in
    let all : AtWork → AtWork → Type 0 = λ s t. ServedAll (WorkerAnswer opens number) g.S.Reader.Read.remaining g.S.Writer.Write.contents g.S.Sessions.takes_back g.S.Sessions.comes c.in_ok-results.results.items (c.args.worker.sessions, s) (c.serve_sessions.new.sessions, t) in
    record {
      own = own;
      further = far;
      calls = done.calls;
      end = c.serve_sessions.new.sessions;
      served = subst (λ s. all s (at_work store c.leave.result.seen done.calls)) begins (subst (λ t. all (seated begun.ask, begun.calls) t) ends seen_all);
    }
