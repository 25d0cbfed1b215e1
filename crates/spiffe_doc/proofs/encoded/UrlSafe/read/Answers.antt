use Rattle.std.proofs.Common.{refl, sym, ap, ◌∙◌, arith}
use Rattle.base64.specs.Engines.{url_safe_no_pad}
use Rattle.base64.specs.GeneralPurpose.{decode_of}
use Rattle.spiffe_doc.proofs.EncodedLemmas.{encoded_bytes-ok, encoded_bytes-err, Encodes-of}
use Rattle.spiffe_doc.proofs.encoded.UrlSafe.read.Goals as goal

pub invariant_of-result : goal.invariant_of-result
invariant_of-result g c = rw c.as_bytes.ensures.value at c.in-Some.ensures

pub invariant_of-result-in-Ok : goal.invariant_of-result-in-Ok
invariant_of-result-in-Ok g c =
    let clauses = c.in-Ok.ensures in
    let same = sym c.as_bytes-2.ensures.value in
    let is = encoded_bytes-ok url_safe_no_pad c.args.text.now c.in-Ok.bytes.items (ap (decode_of url_safe_no_pad) same ∙ clauses.ok) clauses.bytes (same ∙ clauses.exact (refl, refl)) in
    Encodes-of url_safe_no_pad c.args.text.now c.in-Ok.bytes.items c.len.result is (omega (arith, c.len.ensures))

pub returns-in-Ok : goal.returns-in-Ok
returns-in-Ok g c =
    let clauses = c.in-Ok.ensures in
    let same = sym c.as_bytes-2.ensures.value in
    let is = encoded_bytes-ok url_safe_no_pad c.args.text.now c.in-Ok.bytes.items (ap (decode_of url_safe_no_pad) same ∙ clauses.ok) clauses.bytes (same ∙ clauses.exact (refl, refl)) in
    rw is refl

pub returns-in-Err-DecodeError : goal.returns-in-Err-DecodeError
returns-in-Err-DecodeError g c =
    let arm = c.in-Err-DecodeError in
    sym (encoded_bytes-err url_safe_no_pad c.args.text.now arm.field-0-0 (ap (decode_of url_safe_no_pad) (sym c.as_bytes-2.ensures.value) ∙ (rw arm.field-0-is at arm.ensures.err)))
