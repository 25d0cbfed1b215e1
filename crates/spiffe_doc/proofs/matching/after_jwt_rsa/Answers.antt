use Rattle.std.proofs.Common.{refl, sym, ap, ◌∙◌}
use Rattle.json.specs.Print.{escape}
use Rattle.base64.specs.Engines.{url_safe_no_pad}
use Rattle.base64.specs.GeneralPurpose.{encode_of}
use Rattle.spiffe_doc.specs.Text.{entry_text}
use Rattle.spiffe_doc.proofs.MatchingLemmas.{behind}
use Rattle.spiffe_doc.proofs.PlainTexts.{url_safe_plain}
use Rattle.spiffe_doc.proofs.MatchedTexts.{after-jwt_rsa}
use Rattle.spiffe_doc.proofs.matching.after_jwt_rsa.Goals as goal

pub returns : goal.returns
unfolding entry_text
returns c =
    let s1 = behind _ _ _ _ _ c.literal.ensures refl c.of.ensures in
    let s2 = behind _ _ _ _ _ c.url_safe.ensures (ap (encode_of url_safe_no_pad) c.e.ensures.value) s1 in
    let s3 = behind _ _ _ _ _ c.literal-2.ensures refl s2 in
    let s4 = behind _ _ _ _ _ c.escaped.ensures (ap escape c.as_str.ensures.value) s3 in
    let s5 = behind _ _ _ _ _ c.literal-3.ensures refl s4 in
    let s6 = behind _ _ _ _ _ c.url_safe-2.ensures (ap (encode_of url_safe_no_pad) c.n.ensures.value) s5 in
    behind _ _ _ _ _ c.literal-4.ensures refl s6
    ∙ sym (after-jwt_rsa c.args.kid.now _ _ _ (url_safe_plain c.args.key.now.n c.n.ensures.valid.n.octets)
    (url_safe_plain c.args.key.now.e c.e.ensures.valid.e.octets))
