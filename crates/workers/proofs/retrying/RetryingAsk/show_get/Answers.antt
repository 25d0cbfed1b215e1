use Rattle.std.proofs.Common.{◌≡◌, suc, ◌+◌, true, false, true≢false, Err, refl, sym, subst, ◌∙◌, arith}
use Rattle.std.specs.Prelude.{Result}
use Rattle.map_core.specs.Name.{Name}
use Rattle.map_core.specs.declared.op.Op.TheVariants.{Get}
use Rattle.map_core.specs.declared.reply.Reply.{Reply}
use Rattle.map_core.specs.declared.reply.AskError.{AskError}
use Rattle.map_core.specs.declared.reply.AskError.TheVariants.{Memory}
use Rattle.workers.specs.Retrying.{is_transient, AskedAgain, Retried}
use Rattle.workers.proofs.ShownAgain.{shows_last, passes}
use Rattle.workers.proofs.retrying.RetryingAsk.show_get.Goals as goal

pub returns-then-not-may_change : goal.returns-then-not-may_change
returns-then-not-may_change g c =
    let kept = c.loop-turn.invariant in
    record {
      shown = rw (sym kept.2) (shows_last g.V.Viewer.notes (λ (answer : Result Reply AskError). g.A.Ask.answers c.loop-turn.self.ask (Get c.in-Ok.copy) answer c.show_get-shown.new.self)
          (λ (answer : Result Reply AskError). (c.loop-turn.self.retries ≡ c.args.self.now.retries) × Retried g.A.Ask.answers c.args.self.now.retries c.args.self.now.ask (Get c.args.domain) answer c.show_get-shown.new.self)
          (g.V.Viewer.noted c.loop-turn.viewer) c.show_get-shown.result (g.V.Viewer.noted c.show_get-shown.new.viewer)
          (λ (answer : Result Reply AskError) (passing : is_transient answer ≡ true → is_transient c.show_get-shown.result ≡ true) (asked : g.A.Ask.answers c.loop-turn.self.ask (Get c.in-Ok.copy) answer c.show_get-shown.new.self).
          let same = subst (λ (d : Name). g.A.Ask.answers c.loop-turn.self.ask (Get d) answer c.show_get-shown.new.self) c.in-Ok.ensures asked in
          (kept.0, (c.loop-turn._turn + 0, omega (arith, c.loop-turn.auto._turn-end), (λ (transient : is_transient answer ≡ true). absurd (grind (arith, c.may_change.ensures, c.if-not-may_change.true, passing transient))), true, kept.3 0 true _ _ same)))
          c.show_get-shown.ensures.shown);
    }

pub loop-turn-preserved : goal.loop-turn-preserved
loop-turn-preserved g c =
    let kept = c.loop-turn.invariant in
    let passing : is_transient c.show_get-shown.result ≡ true = grind (arith, c.may_change.ensures, c.if-not-may_change.false) in
    let passed = passes g.V.Viewer.notes (λ (answer : Result Reply AskError). g.A.Ask.answers c.loop-turn.self.ask (Get c.in-Ok.copy) answer c.show_get-shown.new.self) (g.V.Viewer.noted c.loop-turn.viewer) c.show_get-shown.result (g.V.Viewer.noted c.show_get-shown.new.viewer)
    passing c.show_get-shown.ensures.shown in
    let asked = subst (λ (d : Name). g.A.Ask.answers c.loop-turn.self.ask (Get d) passed.0 c.show_get-shown.new.self) c.in-Ok.ensures passed.2 in (
      kept.0,
      kept.1,
      passed.3 ∙ kept.2,
      λ k has_room answer new again. let next : c.loop-turn._turn + suc k ≡ c.loop-turn._turn + 1 + k = omega arith in
          subst (λ n. AskedAgain g.A.Ask.answers n has_room c.args.self.now.ask (Get c.args.domain) answer new) next
          (kept.3 (suc k) has_room answer new (passed.0, c.show_get-shown.new.self, passed.1, asked, again)),
    )

pub returns : goal.returns
returns g c =
    let kept = c.loop-turn.invariant in
    let last : c.loop-turn._turn + 0 ≡ c.args.self.now.retries = omega (arith, c.loop-turn.auto._turn-end, c.loop-turn-test.false) in
    record {
      shown = rw (sym kept.2) (shows_last g.V.Viewer.notes (λ (answer : Result Reply AskError). g.A.Ask.answers c.loop-turn.self.ask (Get c.args.domain) answer c.show_get.new.self)
          (λ (answer : Result Reply AskError). (c.loop-turn.self.retries ≡ c.args.self.now.retries) × Retried g.A.Ask.answers c.args.self.now.retries c.args.self.now.ask (Get c.args.domain) answer c.show_get.new.self)
          (g.V.Viewer.noted c.loop-turn.viewer) c.show_get.result (g.V.Viewer.noted c.show_get.new.viewer)
          (λ (answer : Result Reply AskError) (passing : is_transient answer ≡ true → is_transient c.show_get.result ≡ true) (asked : g.A.Ask.answers c.loop-turn.self.ask (Get c.args.domain) answer c.show_get.new.self).
          (kept.0, (c.loop-turn._turn + 0, omega (arith, c.loop-turn.auto._turn-end), (λ transient. last), true, kept.3 0 true _ _ asked)))
          c.show_get.ensures.shown);
    }

pub returns-in_default : goal.returns-in_default
returns-in_default g c =
    let kept = c.loop-turn.invariant in
    let not_again : is_transient {R = Reply} (Err Memory) ≡ true → c.loop-turn._turn + 0 ≡ c.args.self.now.retries = λ transient. absurd (true≢false (sym transient)) in
    record { shown = ((kept.0, (c.loop-turn._turn + 0, omega (arith, c.loop-turn.auto._turn-end), not_again, false, kept.3 0 false _ _ (refl, refl))), kept.2) }
