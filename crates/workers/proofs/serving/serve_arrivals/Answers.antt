use Rattle.std.proofs.Common.{◌≡◌, ◌++◌, ◌∷◌, ℕ, [], refl, sym, ap, arith, length, subst}
use Rattle.std.specs.Prelude.{Bool, Some}
use Rattle.slab.specs.Slab.{get}
use Rattle.workers.specs.Connection.{ConnectionView, opened}
use Rattle.workers.specs.Arrivals.{Brings, IsQuiet, IsReady, News, news_in}
use Rattle.workers.specs.Places.{Follows, FollowsAll, nobody}
use Rattle.workers.specs.Private.Serving.{IsTurn, Serves, begun, work_of}
use Rattle.workers.proofs.ArrivalLemmas.{brings_more, brings_none, goes_on}
use Rattle.workers.proofs.StepLemmas.{all_stay, notes_then, serves_as, serves_none, steps_then, steps_to}
use Rattle.workers.proofs.ServingLemmas.{beyond, by_news, fails_serves, take_serves, turn_follows}
use Rattle.workers.proofs.WaitingLemmas.{round_more, serves_open}
use Rattle.workers.proofs.serving.serve_arrivals.Goals as goal
use Rattle.workers.proofs.serving.serve_arrivals.Goals.{in-Opens+in_ok-take-in-Opens, in-Ready+in_ok-serve-in-Ready, in-Tick+in_ok-follow_tick-in-Tick, in-Fails+in_ok-note_failure-in-Fails, in-Nothing}

pub loop-end-init : goal.loop-end-init
loop-end-init g c =
    let start : Bool → g.row.V-End.Denot → ConnectionView = λ reads_only end. opened reads_only c.args.worker.now.limits.turns (g.V.End.Stream.may end) (g.V.End.Stream.left end) (g.V.End.Stream.held end) in
    let new = c.new-served.ensures in (
      [],
      serves_none g.A.Ask.answers c.args.worker.now.limits (FollowsAll [] []) begun (work_of c.new-served.result) c.args.ask.now.ask c.args.ask.now.ask
          refl (λ place. beyond c.new-served.result.open place (omega (arith, ap length new.open))) new.waiting new.ends refl,
      brings_none start g.V.Arrivals.comes c.args.arrivals.now,
    )

pub loop-end-preserved : goal.loop-end-preserved
loop-end-preserved g c =
    let answers = g.A.Ask.answers in
    let limits = c.args.worker.now.limits in
    let start : Bool → g.row.V-End.Denot → ConnectionView = λ reads_only end. opened reads_only limits.turns (g.V.End.Stream.may end) (g.V.End.Stream.left end) (g.V.End.Stream.held end) in
    let inv = c.loop-end.invariant in
    let old = c.loop-end.served in
    let asked = c.loop-end.ask.ask in
    let free : ℕ = old.open.vacant_key in
    let news = news_in start free in
    let one : News = news c.next.result in
    let followed : Serves answers limits (Follows one) (work_of old) (work_of c.match-next.served) asked c.match-next.ask.ask =
    elim c.match-next.branch [
      | in-Opens+in_ok-take-in-Opens w ↦
          let end = w.in-Opens.end in
          let taken = w.in_ok-take-in-Opens.ensures in
          let stands = subst (λ (e : g.row.V-End.Denot). get w.take.new.self.open free ≡ Some (record { connection = opened w.in-Opens.reads_only limits.turns (g.V.End.Stream.may e) (g.V.End.Stream.left e) (g.V.End.Stream.held e); reads_only = w.in-Opens.reads_only; silent = 0; age = 0 }))
          w.new-metered.ensures taken.taken in
          rw (w.served-is, w.ask-is) (by_news answers limits _ _ _ _ _ _ (ap news w.in-Opens.is)
          (take_serves answers limits free (g.V.End.Stream.may end) (g.V.End.Stream.left end) (g.V.End.Stream.held end) w.in-Opens.reads_only (work_of old) (work_of w.take.new.self) asked
          taken.free stands taken.others taken.waits w.take.ensures.ends))
      | in-Ready+in_ok-serve-in-Ready w ↦
          let place = w.in-Ready.place in
          let is_closing = w.in-Ready.is_closing in
          let there = get old.open place in
          rw (w.served-is, w.ask-is) (by_news answers limits _ _ _ _ _ _ (ap news w.in-Ready.is)
          (serves_as answers limits (IsTurn place (Some is_closing) there) (Follows (IsReady place is_closing)) (turn_follows place is_closing there) (work_of old) (work_of w.serve.new.self)
          asked w.serve.new.ask.ask (w.in_ok-serve-in-Ready.ensures (Some is_closing) refl)))
      | in-Tick+in_ok-follow_tick-in-Tick w ↦
          rw (w.served-is, w.ask-is) (by_news answers limits _ _ _ _ _ _ (ap news w.in-Tick.is) w.in_ok-follow_tick-in-Tick.ensures)
      | in-Fails+in_ok-note_failure-in-Fails w ↦
          let note = w.note_failure.ensures in
          rw (w.served-is, w.ask-is) (by_news answers limits _ _ _ _ _ _ (ap news w.in-Fails.is)
          (fails_serves answers limits (work_of old) (work_of w.note_failure.new.self) asked
          (λ place. ap (λ s. get s place) note.open) (ap (λ w. w.items) note.waiting) w.in_ok-note_failure-in-Fails.ensures.noted))
      | in-Nothing w ↦
          rw (w.served-is, w.ask-is) (by_news answers limits _ _ _ _ _ _ (ap news w.in-Nothing.is)
          (serves_none answers limits (Follows IsQuiet) (work_of old) (work_of old) asked asked refl (all_stay (get old.open)) refl refl refl))
    ] in
    let are_open =
    serves_open answers limits (Follows one) (work_of old) (work_of c.match-next.served) asked c.match-next.ask.ask followed
    (serves_open answers limits (FollowsAll [] inv.0) begun (work_of old) c.args.ask.now.ask asked inv.1 tt) in
    let came = subst (λ (n : ℕ). g.V.Arrivals.comes c.loop-end.arrivals n c.next.result c.next.new.self) c.vacant_key-free.ensures.value c.next.ensures.comes in (
      inv.0 ++ one ∷ [],
      round_more answers limits inv.0 one begun (work_of old) (work_of c.match-next.served) (work_of c.serve_first.new.self)
          c.args.ask.now.ask asked c.match-next.ask.ask c.serve_first.new.ask.ask inv.1 followed (c.in_ok-serve_first.ensures are_open),
      brings_more start g.V.Arrivals.comes inv.0 free c.next.result c.args.arrivals.now c.loop-end.arrivals c.next.new.self inv.2 came,
    )

pub loop-end-smaller : goal.loop-end-smaller
loop-end-smaller g c =
    goes_on c.next.result c.next.ensures.end (λ stop. elim c.match-next.branch [
      | in-Opens+in_ok-take-in-Opens w ↦ (cc (stop, w.in-Opens.is))
      | in-Ready+in_ok-serve-in-Ready w ↦ (cc (stop, w.in-Ready.is))
      | in-Tick+in_ok-follow_tick-in-Tick w ↦ (cc (stop, w.in-Tick.is))
      | in-Fails+in_ok-note_failure-in-Fails w ↦ (cc (stop, w.in-Fails.is))
      | in-Nothing w ↦ (cc (stop, w.in-Nothing.is))
    ])

pub returns : goal.returns
returns g c =
    let start : Bool → g.row.V-End.Denot → ConnectionView = λ reads_only end. opened reads_only c.args.worker.now.limits.turns (g.V.End.Stream.may end) (g.V.End.Stream.left end) (g.V.End.Stream.held end) in
    let inv = c.loop-end.invariant in
    let ended = c.in_ok-end_all.ensures.served in
    let before = inv.1.steps in
    let places = get c.loop-end.served.open in
    let takes =
    steps_then g.A.Ask.answers before ended.steps (nobody, c.args.ask.now.ask) (places, c.loop-end.ask.ask) (nobody, c.end_all.new.ask.ask) inv.1.takes
    (steps_to g.A.Ask.answers ended.steps (places, c.loop-end.ask.ask) (get c.end_all.new.self.open, c.end_all.new.ask.ask) nobody (λ place. sym (c.in_ok-end_all.ensures.left place)) ended.takes) in
    let notes = notes_then before ended.steps begun.kept c.loop-end.served.ends c.end_all.new.self.ends inv.1.notes ended.notes in
    let brings = brings_more start g.V.Arrivals.comes inv.0 c.vacant_key-free.result c.next.result c.args.arrivals.now c.loop-end.arrivals c.next.new.self inv.2 c.next.ensures.comes in (
      record { news = inv.0; before = before; last = ended.steps; follows = inv.1.are; ending = ended.are; takes = takes; ends = notes [] refl; limited = inv.1.limited },
      subst (λ (one : News). Brings start g.V.Arrivals.comes (inv.0 ++ one ∷ []) c.args.arrivals.now c.next.new.self) (ap (news_in start c.vacant_key-free.result) c.in-Stops.is) brings,
    )
