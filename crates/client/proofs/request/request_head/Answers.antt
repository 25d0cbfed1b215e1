use Rattle.std.proofs.Common.{◌≡◌, [], ◌∷◌, ◌++◌, Some, sym, ◌∙◌, ap}
use Rattle.wire.specs.Frame.{frame}
use Rattle.wire.specs.RequestForm.{payload_of, text_of}
use Rattle.client.specs.Request.{version_for, request_payload, speak_bytes}
use Rattle.client.specs.Private.Requests.{document_part}
use Rattle.client.proofs.RequestLemmas.{behind_version}
use Rattle.client.proofs.request.request_head.Goals as goal

pub returns : goal.returns
returns c =
    let text = document_part c.args.op.now in
    let head = c.in-Some.head.items in
    let needed : version_for c.args.op.now ≡ Some c.in-Some-version_for.version = sym c.version_for.ensures ∙ c.in-Some-version_for.is in
    let form = c.request_form.ensures.form in
    let framed : head ++ text ≡ frame (request_payload c.args.op.now) =
    ap (λ t. head ++ t) (ap text_of (sym form)) ∙ c.in-Some.ensures.head.1 ∙ ap (λ r. frame (payload_of r)) form in
    ap (λ b. b ++ text) (c.put.ensures ∙ (λ i. c.head_of-both.ensures i ++ c.as_slice.ensures.value i))
    ∙ ap (λ n. ((0 ∷ 0 ∷ 0 ∷ 2 ∷ 86 ∷ n ∷ []) ++ head) ++ text) c.number.ensures
    ∙ behind_version c.in-Some-version_for.version head text _ framed
    ∙ ap (λ o. speak_bytes o ++ frame (request_payload c.args.op.now)) (sym needed)
