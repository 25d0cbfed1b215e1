use Rattle.std.proofs.Common.{refl, sym, ap, ◌∙◌}
use Rattle.json.specs.Print.{escape}
use Rattle.base64.specs.Engines.{url_safe_no_pad}
use Rattle.base64.specs.GeneralPurpose.{encode_of}
use Rattle.spiffe_doc.specs.Key.{curve_text}
use Rattle.spiffe_doc.specs.Text.{entry_text}
use Rattle.spiffe_doc.proofs.MatchingLemmas.{behind}
use Rattle.spiffe_doc.proofs.PlainTexts.{url_safe_plain}
use Rattle.spiffe_doc.proofs.MatchedTexts.{after-jwt_point}
use Rattle.spiffe_doc.proofs.matching.after_jwt_point.Goals as goal

pub returns : goal.returns
unfolding entry_text
returns c =
    let s1 = behind _ _ _ _ _ c.literal.ensures refl c.of.ensures in
    let s2 = behind _ _ _ _ _ c.literal-2.ensures (c.as_bytes.ensures.value ∙ c.curve_name.ensures ∙ ap curve_text c.curve.ensures) s1 in
    let s3 = behind _ _ _ _ _ c.literal-3.ensures refl s2 in
    let s4 = behind _ _ _ _ _ c.escaped.ensures (ap escape c.as_str.ensures.value) s3 in
    let s5 = behind _ _ _ _ _ c.literal-4.ensures refl s4 in
    let s6 = behind _ _ _ _ _ c.url_safe.ensures (ap (encode_of url_safe_no_pad) c.x.ensures.value) s5 in
    let s7 = behind _ _ _ _ _ c.literal-5.ensures refl s6 in
    let s8 = behind _ _ _ _ _ c.url_safe-2.ensures (ap (encode_of url_safe_no_pad) c.y.ensures.value) s7 in
    behind _ _ _ _ _ c.literal-6.ensures refl s8
    ∙ sym (after-jwt_point c.args.kid.now c.args.key.now.curve _ _ _ (url_safe_plain c.args.key.now.x c.x.ensures.valid.x.octets)
    (url_safe_plain c.args.key.now.y c.y.ensures.valid.y.octets))
