use Rattle.std.proofs.Common.{rules, ◌≡◌, ◌<◌, ◌∙◌, ap, subst, Err}
use Rattle.std.specs.Io.KnownBytes.{Consumes}
use Rattle.wire.specs.Frame.{IsPayload, frame}
use Rattle.wire.specs.ReplyForm.{reply as said}
use Rattle.client.specs.declared.fault.AskFault.TheVariants.{Server}
use Rattle.client.proofs.Replies.{goes_on, torn_off, bad_reply, not_shown}
use Rattle.client.proofs.showing.show_others.Goals as goal

pub returns-in_err-payload-clause-err : goal.returns-in_err-payload-clause-err
returns-in_err-payload-clause-err g c =
    let due : c.loop-place._place < c.args.count = search rules in
    let error = c.in_err-payload.field-0.0 in
    let is : c.from_residual.result ≡ Err (Server error) = search rules in
    let cut = c.in_err-payload.ensures.err in
    rw is (torn_off c.args.form c.loop-place._place c.args.count due _ _ _ _ c.loop-place.invariant.0 error cut.read _ cut.consumes cut.says)

pub returns-in_default-clause-err : goal.returns-in_default-clause-err
returns-in_default-clause-err g c =
    let due : c.loop-place._place < c.args.count = search rules in
    let read = c.in_ok-payload.ensures.ok in
    bad_reply c.args.form c.loop-place._place c.args.count due _ _ _ _ c.loop-place.invariant.0 c.in_ok-payload.payload.now _ read.1.consumes
    (read.0, λ reply same told. rw c.in_default.is at (c.reply_of_payload.ensures.only reply told.0 same))

pub returns-in_err-show-clause-err : goal.returns-in_err-show-clause-err
returns-in_err-show-clause-err g c =
    let due : c.loop-place._place < c.args.count = search rules in
    let fault = c.in_err-show.field-0.0 in
    let is : c.from_residual-in_err-show.result ≡ Err fault = search rules in
    let read = c.in_ok-payload.ensures.ok in
    let same = c.in-Some.ensures.found.0 in
    rw is (not_shown c.args.form c.loop-place._place c.args.count due _ _ _ _ c.loop-place.invariant.0 (said c.in-Some.reply) _ _ fault
    (subst IsPayload same read.0) (λ wanted has other. c.in-Some.ensures.only wanted has (same ∙ other)) (subst (Consumes _ _) (ap frame same) read.1.consumes) c.in_err-show.ensures.err)

pub loop-place-preserved : goal.loop-place-preserved
loop-place-preserved g c =
    let due : c.loop-place._place < c.args.count = search rules in
    let read = c.in_ok-payload.ensures.ok in (
      goes_on c.args.form c.loop-place._place c.args.count due _ _ _ _ c.loop-place.invariant.0
          (said c.in-Some.reply) _ _ _ _ (subst (Consumes _ _) (ap frame c.in-Some.ensures.found.0) read.1.consumes) c.in_ok-show.ensures.ok,
      search rules,
      search rules,
    )
