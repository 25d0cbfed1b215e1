use Rattle.std.proofs.Common.{rules, ◌≡◌, ◌∙◌, ap, subst, Err}
use Rattle.std.proofs.lemmas.Result.{IfOk-weaker, IfErr-weaker}
use Rattle.std.specs.Io.KnownBytes.{Consumes}
use Rattle.wire.specs.Frame.{IsPayload, frame}
use Rattle.wire.specs.ReplyForm.{reply as said}
use Rattle.client.specs.declared.fault.AskFault.TheVariants.{Server}
use Rattle.client.proofs.Requests.{goes_on, told_so}
use Rattle.client.proofs.OneLine.{not_told, bad_reply, first_not_shown}
use Rattle.client.proofs.line.ask_until_told.Goals as goal

pub returns-in_err-payload-clause-err : goal.returns-in_err-payload-clause-err
returns-in_err-payload-clause-err g c =
    let error = c.in_err-payload.field-0.0 in
    let is : c.from_residual.result ≡ Err (Server error) = search rules in
    rw is (rw c.loop-payload.invariant.1 (not_told c.args.how c.loop-payload.left c.args.request.now _ _ _ _ c.loop-payload.invariant.0 c.requires _ _ _ error c.in_err-payload.ensures.err))

pub returns-in_default-clause-err : goal.returns-in_default-clause-err
returns-in_default-clause-err g c =
    let told = c.in_ok-payload.ensures.tells in
    rw c.loop-payload.invariant.1 (bad_reply c.args.how c.loop-payload.left c.args.request.now _ _ _ _ c.loop-payload.invariant.0 c.requires _ _ _ c.in_ok-payload.payload.now c.in_ok-payload.ensures.asks told.1
    (told.0, λ reply same told. rw c.in_default.is at (c.reply_of_payload.ensures.only reply told.0 same)))

pub returns-then-not-is_asked_again-clause-ok : goal.returns-then-not-is_asked_again-clause-ok
returns-then-not-is_asked_again-clause-ok g c =
    let came = subst (Consumes _ _) (ap frame c.in-Some.ensures.found.0) c.in_ok-payload.ensures.tells.1 in
    let until = told_so c.args.how.retries c.loop-payload.left c.args.request.now _ _ _ _ c.loop-payload.invariant.0 _ _ (said c.in-Some.reply) c.in_ok-payload.ensures.asks came (c.is_asked_again.ensures.no c.if-not-is_asked_again.true) in
    IfOk-weaker c.show.result _ _ (λ told shows. record { reply = said c.in-Some.reply; until = until; first = shows }) (rw (c.loop-payload.invariant.1, c.due_to.ensures) at c.show.ensures.ok)

pub returns-then-not-is_asked_again-clause-err : goal.returns-then-not-is_asked_again-clause-err
returns-then-not-is_asked_again-clause-err g c =
    let same = c.in-Some.ensures.found.0 in
    let came = subst (Consumes _ _) (ap frame same) c.in_ok-payload.ensures.tells.1 in
    let until = told_so c.args.how.retries c.loop-payload.left c.args.request.now _ _ _ _ c.loop-payload.invariant.0 _ _ (said c.in-Some.reply) c.in_ok-payload.ensures.asks came (c.is_asked_again.ensures.no c.if-not-is_asked_again.true) in
    IfErr-weaker c.show.result _ _
    (λ fault none. first_not_shown c.args.how c.args.request.now (said c.in-Some.reply) _ _ _ _ until c.requires _ _ fault
    (subst IsPayload same c.in_ok-payload.ensures.tells.0) (λ wanted has other. c.in-Some.ensures.only wanted has (same ∙ other)) none)
    (rw (c.loop-payload.invariant.1, c.due_to.ensures) at c.show.ensures.err)

pub loop-payload-preserved : goal.loop-payload-preserved
loop-payload-preserved g c =
    let again = c.is_asked_again.ensures.yes c.if-not-is_asked_again.false in
    let came = subst (Consumes _ _) (ap frame c.in-Some.ensures.found.0) c.in_ok-payload.ensures.tells.1 in (
      goes_on c.args.how.retries c.loop-payload.left c.args.request.now _ _ _ _ c.loop-payload.invariant.0 _ _
          (said c.in-Some.reply) c.in_ok-payload.ensures.asks came again.1 again.0,
      c.loop-payload.invariant.1,
      search rules,
    )
