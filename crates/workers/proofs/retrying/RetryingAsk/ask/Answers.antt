use Rattle.std.proofs.Common.{◌≡◌, suc, ◌+◌, true, false, true≢false, Err, refl, sym, subst, ◌∙◌, arith}
use Rattle.map_core.specs.declared.op.Op.{Op}
use Rattle.map_core.specs.declared.reply.Reply.{Reply}
use Rattle.map_core.specs.declared.reply.AskError.TheVariants.{Memory}
use Rattle.workers.specs.Retrying.{is_transient, AskedAgain}
use Rattle.workers.proofs.retrying.RetryingAsk.ask.Goals as goal

pub returns-then-not-may_change : goal.returns-then-not-may_change
returns-then-not-may_change g c =
    let kept = c.loop.invariant in
    let asked = subst (λ (o : Op). g.A.Ask.answers c.loop.self.ask o c.ask-answer.result c.ask-answer.new.self) (c.in-Ok.ensures ∙ kept.1) c.ask-answer.ensures.answered in
    record { answered = (kept.0, (c.loop.counter + 0, omega (arith, c.loop.auto.counter-end), (λ (transient : is_transient c.ask-answer.result ≡ true). absurd (grind (arith, c.may_change.ensures, c.if-not-may_change.true, transient))), true, kept.2 0 true _ _ asked)) }

pub loop-preserved : goal.loop-preserved
loop-preserved g c =
    let kept = c.loop.invariant in
    let asked = subst (λ (o : Op). g.A.Ask.answers c.loop.self.ask o c.ask-answer.result c.ask-answer.new.self) (c.in-Ok.ensures ∙ kept.1) c.ask-answer.ensures.answered in
    let transient : is_transient c.ask-answer.result ≡ true = grind (arith, c.may_change.ensures, c.if-not-may_change.false) in (
      kept.0,
      kept.1,
      λ k has_room answer new again. let next : c.loop.counter + suc k ≡ c.loop.counter + 1 + k = omega arith in
          subst (λ n. AskedAgain g.A.Ask.answers n has_room c.args.self.now.ask c.args.op answer new) next
          (kept.2 (suc k) has_room answer new (c.ask-answer.result, c.ask-answer.new.self, transient, asked, again)),
    )

pub returns : goal.returns
returns g c =
    let kept = c.loop.invariant in
    let asked = subst (λ (o : Op). g.A.Ask.answers c.loop.self.ask o c.ask.result c.ask.new.self) kept.1 c.ask.ensures.answered in
    let last : c.loop.counter + 0 ≡ c.args.self.now.retries = omega (arith, c.loop.auto.counter-end, c.loop-test.false) in
    record { answered = (kept.0, (c.loop.counter + 0, omega (arith, c.loop.auto.counter-end), (λ transient. last), true, kept.2 0 true _ _ asked)) }

pub returns-in_default : goal.returns-in_default
returns-in_default g c =
    let kept = c.loop.invariant in
    let not_again : is_transient {R = Reply} (Err Memory) ≡ true → c.loop.counter + 0 ≡ c.args.self.now.retries = λ transient. absurd (true≢false (sym transient)) in
    record { answered = (kept.0, (c.loop.counter + 0, omega (arith, c.loop.auto.counter-end), not_again, false, kept.2 0 false _ _ (refl, refl))) }
