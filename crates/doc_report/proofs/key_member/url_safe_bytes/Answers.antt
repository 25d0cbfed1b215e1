use Rattle.std.proofs.Common.{refl}
use Rattle.base64.specs.Engines.{url_safe_no_pad}
use Rattle.spiffe_doc.proofs.EncodedLemmas.{encoded_bytes-ok, encoded_bytes-err}
use Rattle.doc_report.proofs.key_member.url_safe_bytes.Goals as goal

pub returns-in-Ok : goal.returns-in-Ok
returns-in-Ok c =
    let clauses = c.in-Ok.ensures in
    rw (← c.as_bytes.ensures.value, encoded_bytes-ok url_safe_no_pad c.as_bytes.result.now c.in-Ok.bytes.items clauses.ok clauses.bytes (clauses.exact (refl, refl))) refl

pub returns-in-Err-DecodeError : goal.returns-in-Err-DecodeError
returns-in-Err-DecodeError c =
    let arm = c.in-Err-DecodeError in
    rw (← c.as_bytes.ensures.value, encoded_bytes-err url_safe_no_pad c.as_bytes.result.now arm.field-0-0 (rw arm.field-0-is at arm.ensures.err)) refl
